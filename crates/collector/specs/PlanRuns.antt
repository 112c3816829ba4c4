-- RULES 7.4: the C calls on plans, with rows as runs of bytes, eight a number: at least so many for reading,
-- exactly so many for editing. Assumes nothing.
use Rattle.std.specs.Prelude.{◌≡◌, cond, List, ℕ, ◌*◌, ◌/◌, ◌%◌, ltb, eqb, ℤ, pos, length}
use Rattle.std.proofs.Math.Option.{Option}
use Rattle.rules.specs.Numbers.{LENGTH, PLAN}
use Rattle.rules.specs.Form.{Form}
use Rattle.rules.specs.Layout.{most_pictures}
use Rattle.rules.specs.Answers.{answer, lent_after, row_length, unsaid, amounts, number_over, RecordReads, read_before, record_answer, record_of, row_number, row_answer, ByPlan}
use Rattle.rules.specs.Collector.{packed, row_bytes, row_in}

-- as many numbers as the run holds whole
abbrev pub places_in : List ℕ → ℕ
places_in run = length run / 8

-- the answer and the run are right for reading a record by these pictures
pub record RecordRunIs (φs : List Form) (rec run : List ℕ) (r : ℕ) (after : List ℕ) : Type 0 where
  pub says : List (Option ℤ)
  pub reads : RecordReads φs rec says
  pub gives : r ≡ packed (record_answer φs rec (places_in run) says)
  pub leaves : after ≡ lent_after (number_over (read_before φs rec (places_in run)) (unsaid says) 0) (row_bytes (amounts says)) run

abbrev pub not_plan_run : List ℕ → ℕ → List ℕ → Type 0
not_plan_run lent r after = (r ≡ packed (answer PLAN 0 0 (pos 0))) × (after ≡ lent)

abbrev pub PlanReadRunIs : List ℕ → List ℕ → List ℕ → ℕ → List ℕ → Type 0
PlanReadRunIs b rec run r after = ByPlan b (not_plan_run run r after) (λ φs. RecordRunIs φs rec run r after)

-- the numbers in a run of whole ones, no more of them than a plan has fields; else 0, which no plan's row has
unfoldable pub row_count : ℕ → ℕ
row_count n = cond (eqb (n % 8) 0) (cond (ltb most_pictures (n / 8)) 0 (n / 8)) 0

-- the row in a run of exactly eight bytes a field; else none
abbrev pub run_fits : List Form → List ℕ → {A : Type 0} → A → A → A
run_fits φs run right other = cond (eqb (length run) (8 * row_length φs)) right other

pub record RowRunIs (φs : List Form) (run out : List ℕ) (r : ℕ) (after : List ℕ) : Type 0 where
  pub gives : r ≡ packed (run_fits φs run (row_answer φs (row_in (row_length φs) run) (length out)) (answer LENGTH 0 0 (pos 0)))
  pub leaves : after ≡ run_fits φs run (lent_after (row_number φs (row_in (row_length φs) run) (length out)) (record_of φs (row_in (row_length φs) run)) out) out

abbrev pub PlanEditRunIs : List ℕ → List ℕ → List ℕ → ℕ → List ℕ → Type 0
PlanEditRunIs b run out r after = ByPlan b (not_plan_run out r after) (λ φs. RowRunIs φs run out r after)
