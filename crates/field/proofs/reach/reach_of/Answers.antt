-- `reach_of`: the place that `position` finds. Assumes nothing.
use mathlib.Core.Path.{◌≡◌, ◌∙◌}
use borrow.Author.Rules.{rules}
use lib.ListN.{length}
use Rattle.std.proofs.Common.{tests}
use Rattle.std.proofs.lemmas.Iterator.{YieldsList-from_slice}
use Rattle.std.proofs.lemmas.Iterator.Search.{position_from_yields_List}
use Rattle.rules.specs.Roles.{is_nine}
use Rattle.rules.proofs.Search.{first_le}
use Rattle.field.specs.Results.{nine_in}
use Rattle.field.proofs.Places.{found_first}
use Rattle.field.proofs.reach.reach_of.Goals as goal

pub returns : goal.returns
unfolding nine_in
returns c =
    let rs = c.args.roles.now in
    let o = position_from_yields_List is_nine _ _ _ c.position.ensures.ran (YieldsList-from_slice rs (cc)) (λ x b q k. search (rules, tests)) in
    let e : c.unwrap_or.result ≡ nine_in rs (length rs) = c.unwrap_or.ensures ∙ found_first is_nine rs c.position.result o in
    (e, rw e (first_le _ (length rs)))
