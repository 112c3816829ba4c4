-- `form::Placed::place_all` meets its contract: what is left of the symbols finishes the form. Assumes
-- nothing.
use mathlib.Core.Path.{sym, ◌∙◌}
use native.Mathlib.Omega.{arith}
use Rattle.rules.proofs.Marks.{mark_length}
use Rattle.form.specs.Rooms.{placed_in}
use Rattle.form.proofs.Rows.{left_none, left_v, left_symbol, left_mark}
use Rattle.form.proofs.Placed.place_all.Goals as goal
use Rattle.form.proofs.Placed.place_all.Goals.{then-symbol-ne86, else-symbol-ne86}

pub place-requires-then-mark_at : goal.place-requires-then-mark_at
unfolding placed_in
place-requires-then-mark_at c =
    let two = mark_length c.args.symbols.now c.loop-i.i (sym c.mark_at.ensures ∙ c.if-mark_at.true) in
    rw c.place.ensures (omega (arith, c.loop-i.invariant.few))

pub returns-then-mark_at : goal.returns-then-mark_at
returns-then-mark_at c =
    rw (c.place-then-mark_at.ensures, c.place.ensures, c.mark_number-first.ensures.0)
    (left_mark _ _ _ _ c.loop-i.invariant.rest c.loop-i-test.true (sym c.mark_at.ensures ∙ c.if-mark_at.true))

pub loop-i-preserved : goal.loop-i-preserved
unfolding placed_in
loop-i-preserved c =
    let m = sym c.mark_at.ensures ∙ c.if-mark_at.false in
    let l = c.loop-i-test.true in
    elim c.if-symbol-ne86.branch [
      | then-symbol-ne86 w ↦ record {
        few = rw (w.self-is, w.place-then-symbol-ne86.ensures) (omega (arith, c.loop-i.invariant.few));
        rest = rw (w.self-is, w.place-then-symbol-ne86.ensures, w.number_of.ensures) (left_symbol _ _ _ _ c.loop-i.invariant.rest l m w.if-symbol-ne86.true);
      }
      | else-symbol-ne86 w ↦ record {
        few = rw w.self-is (omega (arith, c.loop-i.invariant.few));
        rest = rw w.self-is (left_v _ _ _ _ c.loop-i.invariant.rest l m w.if-symbol-ne86.false);
      }
    ]

pub returns : goal.returns
returns c = left_none _ _ _ _ c.loop-i.invariant.rest c.loop-i-test.false
