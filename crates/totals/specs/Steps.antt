-- Beyond RULES: what the parts of an addition ask and hand back. Assumes nothing.
use Rattle.std.specs.Prelude.{ℕ, zero, suc, ◌<◌, ◌≤◌, ◌≡◌, true, List, ℤ, pos, ◌+ℤ◌, length, get_or, Option, None, Some}
use Rattle.rules.specs.Numbers.{bad_field}
use Rattle.rules.specs.Layout.{most_pictures}
use Rattle.totals.specs.declared.Answered.{Answered}
use Rattle.totals.specs.declared.Sheet.{Sheet}
use Rattle.totals.specs.Totals.{most_records, sum_fits}

-- there is room for one record more, and every sum that the row brings lies within
pub record RowFits (s : Sheet) (row : List ℤ) : Type 0 where
  pub few : length row ≤ most_pictures
  pub room : s.count < most_records
  pub sums : (k : ℕ) → k < length row → sum_fits (get_or s.sums k (pos 0) +ℤ get_or row k (pos 0)) ≡ true

-- the sheet as it was, beside an answer without a length
abbrev pub unchanged_by : ℕ → ℕ → Sheet → Answered
unchanged_by n field s = record { answer = record { number = n; field = field; length = 0; value = pos 0 }; sheet = s }

-- the first bad place, from 0
abbrev pub before : ℕ → Option ℕ
before zero = None
before (suc k) = Some k

abbrev pub first_bad : List ℕ → Option ℕ
first_bad ns = before (bad_field ns)
