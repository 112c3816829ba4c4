-- RULES 9.4 to 9.7: a totals sheet, and a record added to it. Assumes nothing.
use Rattle.std.specs.Prelude.{ℕ, zero, suc, ◌+◌, ◌^◌, ◌≡◌, Bool, cond, ◌&&◌, List, [], ◌∷◌, ℤ, pos, nat_abs, ◌+ℤ◌, leb, ltb, eqb, length, replicate}
use Rattle.std.proofs.Math.Option.{Option}
use Rattle.std.specs.Int.Signed.{le_z}
use Rattle.rules.specs.declared.Answer.{Answer}
use Rattle.rules.specs.Numbers.{FULL, LENGTH, PLAN, SIZE, first_of, unless, when}
use Rattle.rules.specs.Refusals.{fields_answer}
use Rattle.rules.specs.Form.{Form}
use Rattle.rules.specs.Layout.{most_pictures, record_length}
use Rattle.rules.specs.Answers.{ByPlan, RecordReads, amounts, answer, answer_over, number_over, unsaid}
use Rattle.totals.specs.declared.Sheet.{Sheet}
use Rattle.totals.specs.declared.Added.{Added as CodeAdded}
use Rattle.totals.specs.Batch.{placed, record_at}

-- what an addition hands back: the answer, and the sheet beside it; and the same of what the code hands back
pub record Added : Type 0 where
  pub answer : Answer
  pub sheet : Sheet

abbrev pub added_in : CodeAdded → Added
added_in a = record { answer = fields_answer a.outcome; sheet = a.sheet }

-- RULES 9.4: so many records at most
abbrev pub most_records : ℕ
most_records = 9000

-- a sheet without records
abbrev pub zeros : List ℤ
zeros = replicate most_pictures (pos 0)

abbrev pub empty_sheet : Sheet
empty_sheet = record { count = 0; sums = zeros; least = zeros; greatest = zeros }

-- RULES 9.5: where the count is 0, which `first` says, M is the least and the greatest
unfoldable pub lesser : Bool → ℤ → ℤ → ℤ
lesser first old m = cond first m (cond (le_z old m) old m)

unfoldable pub greater : Bool → ℤ → ℤ → ℤ
greater first old m = cond first m (cond (le_z m old) old m)

-- place by place, as far as there are values; the places behind stay
unfoldable pub over : (ℤ → ℤ → ℤ) → List ℤ → List ℤ → List ℤ
over f xs [] = xs
over f [] (m ∷ ms) = []
over f (x ∷ xs) (m ∷ ms) = f x m ∷ over f xs ms

-- the sheet with a row of these values more
unfoldable pub with_row : Sheet → List ℤ → Sheet
with_row s ms = record {
  count = s.count + 1;
  sums = over ◌+ℤ◌ s.sums ms;
  least = over (lesser (eqb s.count 0)) s.least ms;
  greatest = over (greater (eqb s.count 0)) s.greatest ms;
}

-- RULES 9.6: a sum lies below 10^18 either way
abbrev pub sum_limit : ℕ
sum_limit = 10 ^ 18

unfoldable pub sum_fits : ℤ → Bool
sum_fits s = ltb (nat_abs s) sum_limit

-- the number that each place of the sheet gets, by the sum handed in and the sum that the value brings
abbrev pub size_at : ℤ → ℤ → ℕ
size_at s m = unless (sum_fits s && sum_fits (s +ℤ m)) SIZE

unfoldable pub place_numbers : List ℤ → List ℤ → List ℕ
place_numbers ss [] = []
place_numbers [] (m ∷ ms) = []
place_numbers (s ∷ ss) (m ∷ ms) = size_at s m ∷ place_numbers ss ms

-- behind a refusal the sheet is what was handed in
abbrev pub sheet_by : ℕ → Sheet → List ℤ → Sheet
sheet_by zero s ms = with_row s ms
sheet_by (suc n) s ms = s

-- the sheet is refused as full
abbrev pub fullness : Sheet → ℕ
fullness s = when (leb most_records s.count) FULL

-- a row of values added: 14, and the first place with 8
unfoldable pub row_added : Sheet → List ℤ → Added
row_added s ms = record {
  answer = answer_over (fullness s) (place_numbers s.sums ms) 0 (length ms);
  sheet = sheet_by (number_over (fullness s) (place_numbers s.sums ms) 0) s ms;
}

-- The number that each field of a record gets: SIZE is judged where every field has a value, and a field has
-- the sum at the place of its value.
unfoldable pub field_numbers : Sheet → List (Option ℤ) → List ℕ
field_numbers s os = cond (eqb (first_of (unsaid os)) 0) (place_numbers s.sums (amounts os)) (unsaid os)

-- RULES 6.6, adding a record: behind PLAN 14, 9, and then the fields. `fits` is what 9 asks.
unfoldable pub add_before : Sheet → Bool → ℕ
add_before s fits = first_of (fullness s ∷ unless fits LENGTH ∷ [])

unfoldable pub added_by : ℕ → List Form → Sheet → List (Option ℤ) → Added
added_by before φs s os = record {
  answer = answer_over before (field_numbers s os) 0 (length φs);
  sheet = sheet_by (number_over before (field_numbers s os) 0) s (amounts os);
}

-- RULES 9.7: one record, which stands alone
unfoldable pub record_added : List Form → List ℕ → Sheet → List (Option ℤ) → Added
record_added φs rec s os = added_by (add_before s (eqb (length rec) (record_length φs))) φs s os

-- the record at a place of a batch; at the end there is none, and nothing is added
unfoldable pub batch_added : List Form → List ℕ → ℕ → Sheet → List (Option ℤ) → Added
batch_added φs batch at s os =
    let before = add_before s (placed (record_length φs) (length batch) at) in
    cond (eqb at (length batch)) (record { answer = answer before 0 0 (pos 0); sheet = s }) (added_by before φs s os)

-- the answer and the sheet are right for adding a record by these pictures
pub record RecordAddedIs (φs : List Form) (rec : List ℕ) (s : Sheet) (r : Added) : Type 0 where
  pub says : List (Option ℤ)
  pub reads : RecordReads φs rec says
  pub gives : r ≡ record_added φs rec s says

pub record BatchAddedIs (φs : List Form) (batch : List ℕ) (at : ℕ) (s : Sheet) (r : Added) : Type 0 where
  pub says : List (Option ℤ)
  pub reads : RecordReads φs (record_at φs batch at) says
  pub gives : r ≡ batch_added φs batch at s says

-- and by a plan
abbrev pub not_added : Sheet → Added → Type 0
not_added s r = r ≡ record { answer = answer PLAN 0 0 (pos 0); sheet = s }

abbrev pub RecordAddIs : List ℕ → List ℕ → Sheet → Added → Type 0
RecordAddIs b rec s r = ByPlan b (not_added s r) (λ φs. RecordAddedIs φs rec s r)

abbrev pub AddIs : List ℕ → List ℕ → ℕ → Sheet → Added → Type 0
AddIs b batch at s r = ByPlan b (not_added s r) (λ φs. BatchAddedIs φs batch at s r)
