-- `planread::batch::next_of` meets its contract: each way is a law of Places. Assumes nothing.
use mathlib.Core.Path.{sym, ◌∙◌}
use native.Mathlib.Omega.{arith}
use Rattle.totals.proofs.Places.{at_within, next_end, next_is, next_refused}
use Rattle.planread.proofs.batch.next_of.Goals as goal

pub returns-then-not-is_placed : goal.returns-then-not-is_placed
returns-then-not-is_placed c = sym (next_refused _ _ _ (sym c.is_placed.ensures ∙ c.if-not-is_placed.true))

pub returns-then-place-len : goal.returns-then-place-len
returns-then-place-len c = sym (next_end _ _ _ (sym c.is_placed.ensures ∙ c.if-not-is_placed.false) c.if-place-len.true)

pub overflow_add-result : goal.overflow_add-result
overflow_add-result c =
    let within = at_within c.args.size c.args.len c.args.place (sym c.is_placed.ensures ∙ c.if-not-is_placed.false) c.if-place-len.false in
    omega arith

pub returns : goal.returns
returns c = sym (next_is _ _ _ (sym c.is_placed.ensures ∙ c.if-not-is_placed.false) c.if-place-len.false)
