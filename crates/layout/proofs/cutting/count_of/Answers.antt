-- `layout::cutting::count_of` meets its contract: no layout has more pictures than bytes. Assumes nothing.
use mathlib.Core.Logic.{inl}
use mathlib.Core.List.{[]}
use native.Mathlib.Omega.{arith}
use Rattle.layout.proofs.Ends.{cut_le}
use Rattle.layout.proofs.cutting.count_of.Goals as goal

pub count-requires-clause-fits : goal.count-requires-clause-fits
count-requires-clause-fits c = inl (rw c.of.ensures (omega (arith, cut_le [] c.args.layout.now)))
