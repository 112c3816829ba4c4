-- `totals::Sheet::with_row` meets its contract: after i turns each column has the first i values over it.
-- Assumes nothing.
use mathlib.Core.Path.{◌≡◌}
use lib.Dec.{eqb}
use lib.IntN.{◌+ℤ◌}
use lib.ListN.{take}
use Rattle.totals.specs.Totals.{greater, lesser, over}
use Rattle.totals.proofs.Sheet.with_row.Given as goal

abbrev pub invariant-loop-i : goal.invariant-loop-i
invariant-loop-i l = record {
  first : l.first ≡ eqb l.initial.self.count 0;
  count : l.self.count ≡ l.initial.self.count;
  sums : l.self.sums ≡ over ◌+ℤ◌ l.initial.self.sums (take l.i l.row);
  least : l.self.least ≡ over (lesser l.first) l.initial.self.least (take l.i l.row);
  greatest : l.self.greatest ≡ over (greater l.first) l.initial.self.greatest (take l.i l.row);
}
