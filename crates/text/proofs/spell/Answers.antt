-- `text::spell` meets its contract: the loop keeps `Head`, and the mark, where it comes, ends the text.
-- Assumes nothing.
use mathlib.Core.Path.{◌≡◌, sym, ◌∙◌}
use mathlib.Core.Bool.{false, ◌&&◌}
use Prim.Native.Nat.{◌-◌}
use native.Mathlib.Omega.{arith}
use lib.ListN.{length, drop}
use Rattle.rules.specs.Text.{is_plain, is_mark}
use Rattle.rules.proofs.Marks.{mark_length, two_left}
use Rattle.text.specs.Expansion.{filled}
use Rattle.text.proofs.Walk.{head_none, head_more, head_mark, head_done, head_waits, not_plain, not_mark}
use Rattle.text.proofs.spell.Goals as goal
use Rattle.text.proofs.spell.Goals.{else-is_plain-via-then-is_plain+else-mark_at, else-is_plain-via-else-is_plain}

pub loop-i-init : goal.loop-i-init
loop-i-init c = rw c.no_symbols-picture.ensures (head_none _)

pub bounds-text-i-then-mark_at : goal.bounds-text-i-then-mark_at
bounds-text-i-then-mark_at c =
    let two : (length c.args.text.now - c.loop-i.i ≡ 2) = mark_length c.args.text.now c.loop-i.i (sym c.mark_at.ensures ∙ c.if-mark_at.true) in
    omega arith

pub put-requires-then-mark_at : goal.put-requires-then-mark_at
unfolding filled
put-requires-then-mark_at c = rw c.put.ensures (omega arith)

pub returns-then-mark_at : goal.returns-then-mark_at
returns-then-mark_at c =
    let mark = sym c.mark_at.ensures ∙ c.if-mark_at.true in
    let t = c.args.text.now in
    rw (c.put-then-mark_at.ensures, c.put.ensures)
    (head_mark t c.loop-i.mode c.loop-i.picture c.loop-i.i c.loop-i-test.true c.loop-i.invariant _ _
    (sym c.is_plain.ensures ∙ c.if-is_plain.true) mark (two_left t c.loop-i.i (mark_length t c.loop-i.i mark)))

pub loop-i-preserved : goal.loop-i-preserved
loop-i-preserved c =
    let quiet : ((is_plain c.loop-i.mode && is_mark (drop c.loop-i.i c.args.text.now)) ≡ false) =
    elim c.else-is_plain.branch [ else-is_plain-via-then-is_plain+else-mark_at w ↦ not_mark _ c.loop-i.mode _ w.mark_at.ensures w.if-mark_at.false | else-is_plain-via-else-is_plain w ↦ not_plain _ c.loop-i.mode _ c.is_plain.ensures w.if-is_plain.false ] in
    rw (c.step-mode.ensures, c.put-in-loop-i.ensures)
    (head_more c.args.text.now c.loop-i.mode c.loop-i.picture c.loop-i.i c.loop-i-test.true c.loop-i.invariant _ c.count_of.ensures.0 c.count_of.ensures.1 quiet)

pub returns-then-not-is_plain : goal.returns-then-not-is_plain
returns-then-not-is_plain c = head_waits _ _ _ _ c.loop-i-test.false c.loop-i.invariant (sym c.is_plain-2.ensures ∙ c.if-not-is_plain.true)

pub returns : goal.returns
returns c = head_done _ _ _ _ c.loop-i-test.false c.loop-i.invariant (sym c.is_plain-2.ensures ∙ c.if-not-is_plain.false)
