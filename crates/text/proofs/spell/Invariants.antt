-- `text::spell` meets its contract: the loop keeps `Head`, and the mark, where it comes, ends the text.
-- Assumes nothing.
use Rattle.text.proofs.Walk.{Head}
use Rattle.text.proofs.spell.Given as goal

abbrev pub invariant-loop-i : goal.invariant-loop-i
invariant-loop-i l = Head l.text l.mode l.picture l.i
