-- Beyond RULES: what the steps of editing a row by a plan ask of the bytes and of the row, and what the
-- judging finds. Assumes nothing.
use Rattle.std.specs.Prelude.{◌≡◌, List, ℕ, ◌≤◌, ℤ, length, Result, Ok, Err, ⊤}
use Rattle.rules.specs.declared.Refused.{Refused}
use Rattle.rules.specs.Numbers.{bad_field, first_of}
use Rattle.rules.specs.Refusals.{refusal_number}
use Rattle.rules.specs.Layout.{record_length}
use Rattle.rules.specs.PlanBytes.{forms_in}
use Rattle.rules.specs.Answers.{edit_verdicts}
use Rattle.rules.proofs.PlanWalk.{field_count}

-- the first field whose value is refused, counted from 1, with VALUE or SIZE; both 0 where none is
pub record Bad : Type 0 where
  pub number : ℕ
  pub field : ℕ

abbrev pub bad : ℕ → ℕ → Bad
bad number field = record { number = number; field = field }

-- by the number that each field gets
unfoldable pub bad_of : List ℕ → Bad
bad_of ns = bad (first_of ns) (bad_field ns)

-- and of what the code finds
abbrev pub bad_in : Result ⊤ Refused → Bad
bad_in (Ok done) = bad 0 0
bad_in (Err r) = bad (refusal_number r.refusal) r.field

-- a row whose values all fields of a plan take, and room for the record
pub record Ready (b : List ℕ) (row : List ℤ) (lent : List ℕ) : Type 0 where
  pub each : length row ≡ field_count b
  pub takes : first_of (edit_verdicts (forms_in b) row) ≡ 0
  pub room : record_length (forms_in b) ≤ length lent
