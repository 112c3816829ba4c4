-- Beyond RULES: what the steps of the calls hand on. Assumes nothing.
use Rattle.std.specs.Prelude.{◌≡◌, Bool, cond, ◌||◌, List, ℕ, ◌/◌, ◌%◌, ◌≤◌, ◌<◌, get_or}
use Rattle.rules.specs.Search.{first}
use Rattle.rules.specs.Roles.{is_digit, is_nine, opens}
use Rattle.rules.specs.Form.{Form}
use Rattle.rules.specs.Edit.{opening}
use Rattle.field.specs.Results.{printed_by, reach}
use Rattle.field.specs.declared.writing.Step.{Step}

-- the first digit or drifting symbol of the first n positions; n where there is none
unfoldable pub lead_to : List ℕ → ℕ → ℕ
lead_to rs n = first (λ k. opens (get_or rs k 0) || is_nine (get_or rs k 0)) n

-- positions can be hidden from `lead` up to `to`
pub record Between (φ : Form) (lead to : ℕ) : Type 0 where
  pub opens : lead < to → opening φ ≤ lead
  pub reaches : to ≡ reach φ

-- one position, and what is left before it
unfoldable pub step_of : List ℕ → ℕ → Bool → ℕ → Step
step_of table r negative t = record { prints = printed_by table r negative (t % 10); left = cond (is_digit r) (t / 10) t }
