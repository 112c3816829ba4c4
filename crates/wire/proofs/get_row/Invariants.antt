-- `wire::get_row`: the numbers read stand before the places not reached. Assumes nothing.
use mathlib.Core.Path.{◌≡◌}
use mathlib.Core.List.{◌++◌}
use lib.ListN.{length, take, drop}
use Rattle.rules.specs.Collector.{row_in}
use Rattle.wire.proofs.get_row.Given as goal

abbrev pub invariant-loop-k : goal.invariant-loop-k
invariant-loop-k l = l.row ≡ take l.k (row_in (length l.initial.row) l.run) ++ drop l.k l.initial.row
