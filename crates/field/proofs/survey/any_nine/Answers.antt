-- `any_nine`: from either end the answer is the same. Assumes nothing.
use mathlib.Core.Path.{sym, ◌∙◌}
use mathlib.Core.List.{reverse}
use borrow.Author.Rules.{rules}
use Rattle.std.proofs.Common.{tests}
use Rattle.std.proofs.lemmas.Iterator.Adapters.{YieldsList-from_rev_slice}
use Rattle.std.proofs.lemmas.Iterator.Search.{any_from_yields_List}
use Rattle.std.proofs.lemmas.List.Sorted.{IsPermutation-reverse, list_any-IsPermutation}
use Rattle.rules.specs.Roles.{is_nine}
use Rattle.rules.proofs.Library.{any_is}
use Rattle.field.proofs.survey.any_nine.Goals as goal

pub returns : goal.returns
returns c =
    let rs = c.args.roles.now in
    any_from_yields_List is_nine _ _ _ c.any.ensures.ran (YieldsList-from_rev_slice rs (cc)) (λ x b q k. search (rules, tests))
    ∙ sym (list_any-IsPermutation is_nine rs (reverse rs) (IsPermutation-reverse rs)) ∙ any_is is_nine rs
