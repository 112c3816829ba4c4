-- Beyond RULES: the one value that a field can have, found from the digits that it shows, and what its fields then say. proofs/Exact.antt
-- proves that this is what ReadsAs asks. Assumes nothing.
use Rattle.std.specs.Prelude.{◌≡◌, Bool, true, false, cond, ◌&&◌, List, [], ◌∷◌, ℕ, ◌/◌, ◌%◌, ◌^◌, ◌<◌, ℤ, ltb, get_or, take, drop}
use Rattle.std.proofs.Math.Option.{Option, none, some}
use Rattle.std.specs.declared.option.Option.{Option as CodeOption}
use Rattle.std.specs.Prelude.{None, Some}
use Rattle.rules.specs.Words.{place, same}
use Rattle.rules.specs.Digits.{value_of}
use Rattle.rules.specs.Roles.{is_digit}
use Rattle.rules.specs.Form.{Form, size}
use Rattle.rules.specs.Shape.{digit_count}
use Rattle.rules.specs.Edit.{figures, has_sign, field, signed}

-- what a character is worth as a digit: its place in its list of ten; one that is in no list has the place 30, and so is worth 0
unfoldable pub digit_in : ℕ → ℕ
digit_in c = place c figures % 10

-- the list in which it stands, 3 where it stands in none
unfoldable pub list_in : ℕ → ℕ
list_in c = place c figures / 10

-- the digits that a field shows, at the digits' positions
unfoldable pub shown_in : List ℕ → List ℕ → List ℕ
shown_in [] f = []
shown_in (r ∷ rs) f =
    let rest = shown_in rs (drop 1 f) in
    cond (is_digit r) (digit_in (get_or f 0 0) ∷ rest) rest

abbrev pub shown : Form → List ℕ → List ℕ
shown φ f = shown_in φ.roles f

unfoldable pub worth_of : Form → List ℕ → ℕ
worth_of φ f = value_of (shown φ f)

-- a sign and a magnitude that a value at the picture's own scale can have
pub record Fits (φ : Form) (negative : Bool) (t : ℕ) : Type 0 where
  pub small : t < 10 ^ digit_count φ
  pub sign : negative ≡ true → (0 < t) × (has_sign φ ≡ true)

-- a minus can stand with this magnitude
unfoldable pub minus_fits : Form → ℕ → Bool
minus_fits φ t = ltb 0 t && has_sign φ

-- what the digits shown are worth, with the sign under which it has this very field
unfoldable pub read_of : Form → List ℕ → Option ℤ
read_of φ f =
    cond (same (field φ false (worth_of φ f)) f) (some (signed false (worth_of φ f)))
    (cond (minus_fits φ (worth_of φ f) && same (field φ true (worth_of φ f)) f) (some (signed true (worth_of φ f))) none)

-- the same as an option of the code
abbrev pub option_of : Option ℤ → CodeOption ℤ
option_of none = None
option_of (some m) = Some m

-- and so for each field of a record
unfoldable pub read_all : List Form → List ℕ → List (Option ℤ)
read_all [] rec = []
read_all (φ ∷ φs) rec = read_of φ (take (size φ) rec) ∷ read_all φs (drop (size φ) rec)
