-- RULES 9.10: a totals sheet in a run of bytes, 97 numbers of eight bytes: the count, and 32 sums, least and
-- greatest values; and the C call that adds a record to it. Assumes nothing.
use Rattle.std.specs.Prelude.{◌≡◌, cond, List, [], ◌++◌, ℕ, ltb, eqb, ℤ, pos, negsuc, length, drop}
use Rattle.rules.specs.Numbers.{ROOM}
use Rattle.rules.specs.Form.{Form}
use Rattle.rules.specs.Layout.{most_pictures}
use Rattle.rules.specs.Answers.{answer, lent_after, ByPlan}
use Rattle.rules.specs.Collector.{packed, bytes_of, int_in, row_bytes, row_in}
use Rattle.totals.specs.declared.Sheet.{Sheet}
use Rattle.totals.specs.Totals.{Added, most_records, BatchAddedIs}
use Rattle.collector.specs.PlanRuns.{not_plan_run}

-- RULES 9.10: so many bytes are a sheet
abbrev pub sheet_size : ℕ
sheet_size = 776

-- RULES 9.10: a number below 0 is no count and stands for that of a full sheet
abbrev pub counted : ℤ → ℕ
counted (pos n) = n
counted (negsuc n) = most_records

-- RULES 9.10: the sheet that stands in a run, and a sheet's bytes
unfoldable pub sheet_in : List ℕ → Sheet
sheet_in run = record {
  count = counted (int_in run);
  sums = row_in most_pictures (drop 8 run);
  least = row_in most_pictures (drop 264 run);
  greatest = row_in most_pictures (drop 520 run);
}

unfoldable pub sheet_bytes : Sheet → List ℕ
sheet_bytes s = bytes_of (pos s.count) ++ (row_bytes s.sums ++ (row_bytes s.least ++ row_bytes s.greatest))

-- RULES 9.10: in a run that is long enough for a sheet, and in one that isn't
abbrev pub sheet_fits : List ℕ → {A : Type 0} → A → A → A
sheet_fits run right other = cond (ltb (length run) sheet_size) other right

-- RULES 9.7 and 9.10: what an addition writes is the sheet, and at the end of the batch nothing
abbrev pub written_at : List ℕ → ℕ → Sheet → List ℕ
written_at batch at s = cond (eqb at (length batch)) [] (sheet_bytes s)

-- RULES 9.10: the answer and the run are right for adding the record at a place by these pictures. That is 7
-- where the run is short, and else what comes of adding the record to the sheet in the run.
pub record PlaceRunIs (φs : List Form) (batch : List ℕ) (at : ℕ) (run : List ℕ) (r : ℕ) (after : List ℕ) : Type 0 where
  pub added : Added
  pub adds : BatchAddedIs φs batch at (sheet_in run) added
  pub gives : r ≡ packed (sheet_fits run added.answer (answer ROOM 0 0 (pos 0)))
  pub leaves : after ≡ sheet_fits run (lent_after added.answer.number (written_at batch at added.sheet) run) run

-- RULES 9.10: and by a plan, 12 first
abbrev pub TotalsAddRunIs : List ℕ → List ℕ → ℕ → List ℕ → ℕ → List ℕ → Type 0
TotalsAddRunIs b batch at run r after = ByPlan b (not_plan_run run r after) (λ φs. PlaceRunIs φs batch at run r after)
