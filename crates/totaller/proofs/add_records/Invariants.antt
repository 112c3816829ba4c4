-- `totaller::add_records` adds record k from line k, and the lines that are left are those behind it; at the
-- end no line is left. Assumes nothing.
use Prim.Native.Nat.{◌≤◌, ◌+◌}
use mathlib.Core.Path.{◌≡◌}
use mathlib.Core.Bool.{true}
use lib.ListN.{length, drop}
use Rattle.std.specs.Prelude.{None}
use Rattle.listing.specs.Program.{lines_in, lines_left}
use Rattle.listing.specs.TotalProgram.{stop_number, Adding}
use Rattle.totaller.proofs.add_records.Given as goal

abbrev pub invariant-loop-line : goal.invariant-loop-line
invariant-loop-line l = record {
  can : (goal.iterator-loop-line).can_next l.line-iterator;
  finite : (goal.iterator-loop-line).is_finite l.line-iterator;
  left : lines_left l.line-iterator ≡ drop (l.course.records + 1) (lines_in l.input);
  there : l.course.records + 1 ≤ length (lines_in l.input);
  refusals : l.course.refused ≤ l.course.records;
  room : length l.out ≡ length l.fn.out;
  adding : Adding l.input l.course.records l.course.refused (stop_number l.course.stop) l.course.sheet;
  goes_on : l.course.stop ≡ None;
  printed : l.course.whole ≡ true → l.printed ≡ true;
}
