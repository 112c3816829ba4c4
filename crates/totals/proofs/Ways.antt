-- Adding a row, at each way through the code: full, a sum too big, and the sheet with a record more. Assumes
-- nothing.
use Prim.Native.Nat.{ℕ, ◌<◌, ◌≤◌, min}
use mathlib.Core.Path.{◌≡◌}
use mathlib.Core.List.{List}
use mathlib.Core.Logic.{⊎_elim}
use native.Mathlib.Omega.{arith}
use borrow.Author.Tests.{eq-eqb, ne_eqb, le-leb, lt-leb}
use lib.IntN.{ℤ, pos}
use lib.ListN.{length, take}
use lib.Seq.{take_all}
use Rattle.rules.specs.Numbers.{bad_field, first_of}
use Rattle.rules.specs.Layout.{most_pictures}
use Rattle.rules.specs.Answers.{answer_over, number_over}
use Rattle.rules.proofs.Logic.{lt_or_le}
use Rattle.totals.specs.declared.Sheet.{Sheet}
use Rattle.totals.specs.Totals.{Added, most_records, place_numbers, row_added, with_row}
use Rattle.totals.proofs.Columns.{numbers_first}

-- a row of which 32 values are taken at the most
pub row_taken : (row : List ℤ) → take (min (length row) most_pictures) row ≡ take most_pictures row
row_taken row =
    ⊎_elim
    (λ (l : most_pictures < length row). let e : min (length row) most_pictures ≡ most_pictures = omega arith in rw e)
    (λ (l : length row ≤ most_pictures). let e : min (length row) most_pictures ≡ length row = omega arith in rw (e, take_all most_pictures row l, take_all (length row) row (omega arith)))
    (lt_or_le most_pictures (length row))

abbrev refused : ℕ → ℕ → Sheet → Added
refused n field s = record { answer = record { number = n; field = field; length = 0; value = pos 0 }; sheet = s }

module _ (s : Sheet) (ms : List ℤ) where
  pub full_way : most_records ≤ s.count → refused 14 0 s ≡ row_added s ms
  unfolding row_added answer_over number_over first_of
  full_way l = rw (le-leb most_records s.count l)

  module _ (l : s.count < most_records) where
    pub size_way : (bad_field (place_numbers s.sums ms) ≡ 0 → ⊥) → refused 8 (bad_field (place_numbers s.sums ms)) s ≡ row_added s ms
    unfolding row_added answer_over number_over first_of
    size_way n = rw (lt-leb most_records s.count l, numbers_first s.sums ms, ne_eqb (bad_field (place_numbers s.sums ms)) 0 n)

    pub added_way : bad_field (place_numbers s.sums ms) ≡ 0
        → record { answer = record { number = 0; field = 0; length = length ms; value = pos 0 }; sheet = with_row s ms } ≡ row_added s ms
    unfolding row_added answer_over number_over first_of
    added_way n = rw (lt-leb most_records s.count l, numbers_first s.sums ms, eq-eqb (bad_field (place_numbers s.sums ms)) 0 n)
