-- `lister::list_records` prints record k's line from line k, and the lines that are left are those behind it;
-- at the end no line is left. A line says one refusal at most, and those said so far are counted. Assumes
-- nothing.
use Prim.Native.Nat.{◌≤◌, ◌+◌}
use mathlib.Core.Path.{◌≡◌}
use mathlib.Core.Bool.{true}
use lib.ListN.{length, drop}
use Rattle.listing.specs.Program.{lines_in, lines_left}
use Rattle.remarks.specs.Remarks.{RefusedAmong}
use Rattle.lister.proofs.list_records.Given as goal

abbrev pub invariant-loop-line : goal.invariant-loop-line
invariant-loop-line l = record {
  can : (goal.iterator-loop-line).can_next l.line-iterator;
  finite : (goal.iterator-loop-line).is_finite l.line-iterator;
  left : lines_left l.line-iterator ≡ drop (l.records + 1) (lines_in l.input);
  there : l.records + 1 ≤ length (lines_in l.input);
  refusals : l.refused ≤ l.records;
  kept : length l.record ≡ length l.fn.record;
  room : length l.out ≡ length l.fn.out;
  counted : RefusedAmong l.input l.records l.refused;
  printed : l.whole ≡ true → l.printed ≡ true;
}
