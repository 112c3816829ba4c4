-- `wire::put_row`: the bytes of the numbers passed stand before what was there. Assumes nothing.
use mathlib.Core.Path.{◌≡◌}
use mathlib.Core.List.{◌++◌}
use Prim.Native.Nat.{◌*◌}
use lib.ListN.{take, drop}
use Rattle.rules.specs.Collector.{row_bytes}
use Rattle.wire.proofs.put_row.Given as goal

abbrev pub invariant-loop-k : goal.invariant-loop-k
invariant-loop-k l = l.run ≡ row_bytes (take l.k l.row) ++ drop (8 * l.k) l.initial.run
