-- `lead_of`: the place that `position` finds. Assumes nothing.
use mathlib.Core.Path.{◌≡◌, ◌∙◌}
use mathlib.Core.Bool.{◌||◌}
use borrow.Author.Rules.{rules}
use lib.ListN.{length}
use Rattle.std.proofs.Common.{tests}
use Rattle.std.proofs.lemmas.Iterator.{YieldsList-from_slice}
use Rattle.std.proofs.lemmas.Iterator.Search.{position_from_yields_List}
use Rattle.rules.specs.Roles.{is_nine, opens}
use Rattle.rules.proofs.Search.{first_le}
use Rattle.field.specs.Steps.{lead_to}
use Rattle.field.proofs.Places.{found_first}
use Rattle.field.proofs.reach.lead_of.Goals as goal

pub returns : goal.returns
unfolding lead_to
returns c =
    let rs = c.args.roles.now in
    let o = position_from_yields_List (λ r. opens r || is_nine r) _ _ _ c.position.ensures.ran (YieldsList-from_slice rs (cc)) (λ x b q k. search (rules, tests)) in
    let e : c.unwrap_or.result ≡ lead_to rs (length rs) = c.unwrap_or.ensures ∙ found_first (λ r. opens r || is_nine r) rs c.position.result o in
    (e, rw e (first_le _ (length rs)))
