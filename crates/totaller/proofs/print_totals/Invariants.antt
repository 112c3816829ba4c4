-- `totaller::print_totals` prints the count and then field after field, as many as the plan's first byte says. Assumes nothing.
use mathlib.Core.Path.{◌≡◌}
use mathlib.Core.Bool.{true}
use lib.ListN.{length}
use Rattle.totaller.proofs.print_totals.Given as goal

abbrev pub invariant-loop-i : goal.invariant-loop-i
invariant-loop-i l = (length l.out ≡ length l.fn.out) × (l.whole ≡ true → l.initial.whole ≡ true)
