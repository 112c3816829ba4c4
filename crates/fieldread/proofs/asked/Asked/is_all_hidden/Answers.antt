-- `is_all_hidden`: the two lists are compared place by place. Assumes nothing.
use borrow.Author.Rules.{rules}
use Rattle.std.proofs.Common.{tests}
use Rattle.std.proofs.lemmas.Iterator.{YieldsList-from_slice, YieldsList-from_zip, cases_from_all}
use Rattle.std.proofs.lemmas.Iterator.Consumers.{YieldsList-at}
use Rattle.fieldread.proofs.Chains.{Shows, shows_all}
use Rattle.fieldread.proofs.asked.Asked.is_all_hidden.Goals as goal

pub returns : goal.returns
returns c =
    let a = c.args.self.now in
    let rs = a.form.roles.now in
    let f = a.field.now in
    shows_all a.form.kind rs f a.long c.all.result (cases_from_all c.all.new.self _ _ (Shows a.form.kind rs f a.long) (λ x. Shows a.form.kind rs f a.long x → ⊥) c.all.ensures.ran (YieldsList-from_zip (YieldsList-at c.zip.ensures.first (YieldsList-from_slice rs c.iter.ensures.rest)) (YieldsList-from_slice f (cc))) (λ x q k. search (rules, tests)) (λ x q k. search (rules, tests)))
