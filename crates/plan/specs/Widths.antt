-- What the code compares while it lends each field's part: the record length that the headers of a plan's
-- bytes say, whether or not so many positions follow, and the number in two bytes. Assumes nothing.
use Rattle.std.specs.Prelude.{ℕ, zero, suc, ◌+◌, ◌-◌, ◌*◌, List, get_or, drop}
use Rattle.rules.proofs.PlanWalk.{field_count}

-- the sum of the n of c headers
unfoldable pub widths : ℕ → List ℕ → ℕ
widths zero h = 0
widths (suc c) h = get_or h 0 0 + widths c (drop 3 h)

-- from field i on
unfoldable pub widths_at : List ℕ → ℕ → ℕ
widths_at b i = widths (field_count b - i) (drop (1 + 3 * i) b)
