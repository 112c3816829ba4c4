-- `any_sign`: from either end the answer is the same. Assumes nothing.
use mathlib.Core.Path.{sym, ◌∙◌}
use mathlib.Core.List.{reverse}
use native.Mathlib.Omega.{arith}
use borrow.Author.Rules.{rules}
use Rattle.std.proofs.Common.{tests}
use Rattle.std.proofs.lemmas.Iterator.Adapters.{YieldsList-from_rev_slice}
use Rattle.std.proofs.lemmas.Iterator.Search.{any_from_yields_List}
use Rattle.std.proofs.lemmas.List.Sorted.{IsPermutation-reverse, list_any-IsPermutation}
use Rattle.rules.specs.Roles.{is_sign}
use Rattle.rules.proofs.Library.{any_is}
use Rattle.rules.proofs.Lists.{any_behind}
use Rattle.field.proofs.survey.any_sign.Goals as goal

pub returns-in-len1-up : goal.returns-in-len1-up
returns-in-len1-up c = sym (any_behind is_sign 0 0 c.args.roles.now (omega arith) (omega arith) (sym c.is_sign.ensures ∙ c.if-is_sign.true))

pub returns-in_default : goal.returns-in_default
returns-in_default c =
    let rs = c.args.roles.now in
    any_from_yields_List is_sign _ _ _ c.any.ensures.ran (YieldsList-from_rev_slice rs (cc)) (λ x b q k. search (rules, tests))
    ∙ sym (list_any-IsPermutation is_sign rs (reverse rs) (IsPermutation-reverse rs)) ∙ any_is is_sign rs
