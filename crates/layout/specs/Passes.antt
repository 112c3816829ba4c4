-- What each pass over a layout is asked and what it hands on. Assumes nothing.
use Rattle.std.specs.Prelude.{ℕ, ◌+◌, ◌≤◌, ◌≡◌, List, map, length, Result, Ok, Err}
use Rattle.std.proofs.lemmas.List.Edits.{sets}
use Rattle.rules.specs.declared.Refused.{Refused}
use Rattle.rules.specs.Numbers.{first_of, bad_field}
use Rattle.rules.specs.Refusals.{refusal_number}
use Rattle.rules.specs.Form.{Form, size, meaning}
use Rattle.rules.specs.Shape.{verdict}
use Rattle.rules.specs.Layout.{verdicts, forms, record_length, headers, positions, plan_of, most_pictures}
use Rattle.form.specs.declared.Meaning.{Meaning}
use Rattle.form.specs.Rooms.{meaning_of}
use Rattle.layout.specs.declared.measuring.Extent.{Extent}

-- this is what the picture means, or its refusal in this field
abbrev pub FormAt : List ℕ → ℕ → Result Meaning Refused → Type 0
FormAt t field (Ok form) = (0 ≡ verdict t) × (form ≡ meaning_of (meaning t))
FormAt t field (Err refused) = (refusal_number refused.refusal ≡ verdict t) × (refused.field ≡ field)

-- all of these pictures are accepted, and this is their count with the sum of their n
pub record ExtentIs (ts : List (List ℕ)) (extent : Extent) : Type 0 where
  pub accepted : first_of (map verdict ts) ≡ 0
  pub count : extent.count ≡ length ts
  pub width : extent.width ≡ record_length (map meaning ts)

-- this is the refusal of the first bad one of these pictures
pub record FirstBad (ts : List (List ℕ)) (refused : Refused) : Type 0 where
  pub number : refusal_number refused.refusal ≡ first_of (map verdict ts)
  pub field : refused.field ≡ bad_field (map verdict ts)

abbrev pub MeasuredIs : List (List ℕ) → Result Extent Refused → Type 0
MeasuredIs ts (Ok extent) = ExtentIs ts extent
MeasuredIs ts (Err refused) = FirstBad ts refused

-- a form's header and its roles lie in the room, and n and V's place in a byte
pub record FormFits (φ : Form) (room header at : ℕ) : Type 0 where
  pub small : size φ ≤ 64
  pub vee : φ.vee ≤ size φ
  pub apart : header + 3 ≤ at
  pub roles : at + size φ ≤ room

-- these pictures are accepted; their headers lie before their roles, and these in the room
pub record Fits (ts : List (List ℕ)) (room header at : ℕ) : Type 0 where
  pub accepted : first_of (map verdict ts) ≡ 0
  pub apart : header + length (headers (map meaning ts)) ≤ at
  pub roles : at + length (positions (map meaning ts)) ≤ room

-- the headers of these forms from one place on, their roles from another
abbrev pub fields_in : List ℕ → ℕ → ℕ → List Form → List ℕ
fields_in plan header at φs = sets (sets plan header (headers φs)) at (positions φs)

-- every refusal is settled, and this is the layout's extent
pub record Settled (l : List ℕ) (room : ℕ) (extent : Extent) : Type 0 where
  pub accepted : first_of (verdicts l) ≡ 0
  pub count_is : extent.count ≡ length (forms l)
  pub few : extent.count ≤ most_pictures
  pub width_is : extent.width ≡ record_length (forms l)
  pub fits : length (plan_of (forms l)) ≤ room
