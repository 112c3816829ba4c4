-- RULES 5, layouts and plans: a layout's pictures, and the bytes of its plan. Assumes nothing.
use Rattle.std.specs.Prelude.{ℕ, ◌+◌, ◌/◌, ◌%◌, ◌≡◌, Bool, true, false, cond, ◌&&◌, List, [], ◌∷◌, ◌++◌, map, leb, eqb, length}
use Prim.Native.Char.{code}
use Rattle.rules.specs.Numbers.{COUNT, unless, first_of}
use Rattle.rules.specs.Form.{Form, size, meaning}
use Rattle.rules.specs.Shape.{verdict}

-- RULES 5.1: so many pictures and bytes at most
abbrev pub most_pictures : ℕ
most_pictures = 32

abbrev pub most_layout : ℕ
most_layout = 4128

-- what stands before each `;`, after `sofar`; what no `;` ends is no picture
unfoldable pub cut : List ℕ → List ℕ → List (List ℕ)
cut sofar [] = []
cut sofar (b ∷ s) =
    let here = sofar ∷ cut [] s in
    let more = cut (sofar ++ (b ∷ [])) s in
    cond (eqb b (code ";")) here more

abbrev pub pictures : List ℕ → List (List ℕ)
pictures l = cut [] l

-- the last byte is `;`; `now` says whether the byte before was
unfoldable pub closes : Bool → List ℕ → Bool
closes now [] = now
closes now (b ∷ s) = closes (eqb b (code ";")) s

-- RULES 5.1: COUNT is given where this fails. A layout that is empty isn't ended by `;`.
unfoldable pub count_fits : List ℕ → Bool
count_fits l = closes false l && (leb (length l) most_layout && leb (length (pictures l)) most_pictures)

-- the number that each picture gets
abbrev pub verdicts : List ℕ → List ℕ
verdicts l = map verdict (pictures l)

-- every picture of the layout is accepted, and so is their count
unfoldable pub accepted : List ℕ → Bool
accepted l = eqb (first_of (unless (count_fits l) COUNT ∷ first_of (verdicts l) ∷ [])) 0

-- RULES 5.2: the forms of its pictures, in their order
unfoldable pub forms : List ℕ → List Form
forms l = map meaning (pictures l)

-- RULES 5.2: all positions of a record
unfoldable pub record_length : List Form → ℕ
record_length [] = 0
record_length (φ ∷ φs) = size φ + record_length φs

-- RULES 5.3: three bytes a field
unfoldable pub headers : List Form → List ℕ
headers [] = []
headers (φ ∷ φs) = size φ ∷ φ.vee ∷ φ.kind ∷ headers φs

-- and one byte a position
unfoldable pub positions : List Form → List ℕ
positions [] = []
positions (φ ∷ φs) = φ.roles ++ positions φs

-- RULES 5.3: both sections, each behind its count
unfoldable pub plan_of : List Form → List ℕ
plan_of φs = length φs ∷ headers φs ++ (record_length φs / 256 ∷ record_length φs % 256 ∷ positions φs)

-- RULES 5.4: an accepted layout has these bytes as its plan
pub record HasPlan (l b : List ℕ) : Type 0 where
  pub layout : accepted l ≡ true
  pub plan : plan_of (forms l) ≡ b
