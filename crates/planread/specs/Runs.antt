-- Beyond RULES: what a run over the fields of a record hands back, by what each field says, and the outcome
-- that follows. The public call is held to the relation of the rules instead. Assumes nothing.
use Rattle.std.specs.Prelude.{ℕ, ◌+◌, List, [], ◌∷◌, ℤ, length, set, Result, Ok, Err, ⊤}
use Rattle.std.proofs.Math.Option.{Option, none, some}
use Rattle.rules.specs.declared.Answer.{Answer}
use Rattle.rules.specs.declared.Refusal.TheVariants.{Conversion}
use Rattle.rules.specs.declared.Refused.{Refused}
use Rattle.rules.specs.Answers.{record_answer, row_after}
use Rattle.rules.specs.PlanBytes.{forms_in}
use Rattle.rules.specs.Candidate.{read_all}
use Rattle.totals.specs.declared.Sheet.{Sheet}
use Rattle.totals.specs.Batch.{record_at}
use Rattle.totals.specs.Totals.{Added, batch_added, record_added}

-- what a run over the fields hands back, and the values of the fields before the one that says nothing, each
-- at its place
pub record Ran : Type 0 where
  pub outcome : Result ⊤ Refused
  pub values : List ℤ

abbrev pub says_nothing : ℕ → Result ⊤ Refused
says_nothing field = Err (record { refusal = Conversion; field = field })

-- from field i on, with what the fields before it say in `values`: each value goes to its place, up to a
-- field that says nothing
unfoldable pub ran_from : ℕ → List ℤ → List (Option ℤ) → Ran
ran_from i values [] = record { outcome = Ok tt; values = values }
ran_from i values (none ∷ os) = record { outcome = says_nothing (i + 1); values = values }
ran_from i values (some m ∷ os) = ran_from (i + 1) (set values i m) os

-- the candidate's outcome by bytes that are a plan: the answer, and the row
unfoldable pub plan_answer : List ℕ → List ℕ → List ℤ → Answer
plan_answer b rec row = record_answer (forms_in b) rec (length row) (read_all (forms_in b) rec)

unfoldable pub plan_row : List ℕ → List ℕ → List ℤ → List ℤ
plan_row b rec row = row_after (forms_in b) rec row (read_all (forms_in b) rec)

-- and of a record added to a sheet, alone and at a place of a batch
unfoldable pub plan_added : List ℕ → List ℕ → Sheet → Added
plan_added b rec s = record_added (forms_in b) rec s (read_all (forms_in b) rec)

unfoldable pub plan_placed : List ℕ → List ℕ → ℕ → Sheet → Added
plan_placed b batch at s = batch_added (forms_in b) batch at s (read_all (forms_in b) (record_at (forms_in b) batch at))
