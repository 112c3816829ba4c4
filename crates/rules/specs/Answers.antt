-- RULES 6: what each call answers and what the lent memory holds afterwards, over all inputs. Assumes nothing.
use Rattle.std.specs.Prelude.{ℕ, zero, suc, ◌≡◌, cond, List, [], ◌∷◌, ◌++◌, map, ℤ, pos, ltb, eqb, length, take, drop}
use Rattle.std.proofs.Math.Option.{Option, none, some}
use Rattle.rules.specs.declared.Answer.{Answer}
use Rattle.rules.specs.declared.Rounding.{Rounding}
use Rattle.rules.specs.declared.Rounding.TheVariants.{HalfAway}
use Rattle.rules.specs.Numbers.{VALUE, ROOM, SIZE, LENGTH, CONVERSION, COUNT, PLAN, when, unless, first_of, bad_field}
use Rattle.rules.specs.Form.{Form, size, meaning}
use Rattle.rules.specs.Shape.{places, verdict}
use Rattle.rules.specs.Edit.{in_range, too_big, edited}
use Rattle.rules.specs.Read.{ReadsAs}
use Rattle.rules.specs.Layout.{count_fits, verdicts, forms, record_length, plan_of, HasPlan}

-- RULES 6.2: a refusal has a field and no length and value; success has a length and a value and no field
abbrev pub answer : ℕ → ℕ → ℕ → ℤ → Answer
answer zero field length value = record { number = 0; field = 0; length = length; value = value }
answer (suc n) field length value = record { number = suc n; field = field; length = 0; value = pos 0 }

-- RULES 6.5: a refusal leaves the lent memory; on success what is written stands first, before what stays
abbrev pub lent_after : {A : Type 0} → ℕ → List A → List A → List A
lent_after zero written lent = written ++ drop (length written) lent
lent_after (suc n) written lent = lent

-- Calls on one picture.

-- RULES 6.4: the length of a picture that is checked is n
unfoldable pub check_answer : List ℕ → Answer
check_answer t = answer (verdict t) 0 (size (meaning t)) (pos 0)

-- RULES 6.6, editing, in rounding or by the cut: picture, 6, 8, 7
unfoldable pub edit_number : Rounding → List ℕ → ℤ → ℕ → ℕ → ℕ
edit_number w t m q room =
    first_of (
    verdict t ∷
    unless (in_range m q) VALUE ∷
    when (too_big w (meaning t) m q) SIZE ∷
    when (ltb room (size (meaning t))) ROOM ∷ [])

unfoldable pub edit_answer : Rounding → List ℕ → ℤ → ℕ → List ℕ → Answer
edit_answer w t m q out = answer (edit_number w t m q (length out)) 0 (size (meaning t)) (pos 0)

unfoldable pub edit_memory : Rounding → List ℕ → ℤ → ℕ → List ℕ → List ℕ
edit_memory w t m q out = lent_after (edit_number w t m q (length out)) (edited w (meaning t) m q) out

-- CONVERSION where a field says nothing, and the value that it says
abbrev pub unread : Option ℤ → ℕ
unread none = CONVERSION
unread (some m) = 0

abbrev pub said : Option ℤ → ℤ
said none = pos 0
said (some m) = m

-- RULES 6.6, reading: picture, 9, 10
unfoldable pub read_answer : List ℕ → List ℕ → Option ℤ → Answer
read_answer t f o = answer (first_of (verdict t ∷ unless (eqb (length f) (size (meaning t))) LENGTH ∷ unread o ∷ [])) 0 1 (said o)

-- the answer r is right for this text and field: where the picture is accepted, `says` is the one value that edits to the field, or that
-- there is none
pub record ReadIs (t f : List ℕ) (r : Answer) : Type 0 where
  pub says : Option ℤ
  pub reads : verdict t ≡ 0 → ReadsAs (meaning t) f says
  pub gives : r ≡ read_answer t f says

-- Calls on layouts and plans.

-- Refusals of the whole before the fields are judged, the number that each field gets, and refusals of the whole afterwards.
unfoldable pub number_over : ℕ → List ℕ → ℕ → ℕ
number_over before fields behind = first_of (before ∷ first_of fields ∷ behind ∷ [])

unfoldable pub answer_over : ℕ → List ℕ → ℕ → ℕ → Answer
answer_over before fields behind length =
    answer (number_over before fields behind) (cond (eqb before 0) (bad_field fields) 0) length (pos 0)

-- RULES 6.6, compiling: 11, the pictures, 7
unfoldable pub compile_number : List ℕ → ℕ → ℕ
compile_number l room = number_over (unless (count_fits l) COUNT) (verdicts l) (when (ltb room (length (plan_of (forms l)))) ROOM)

unfoldable pub compile_answer : List ℕ → List ℕ → Answer
compile_answer l plan =
    answer_over (unless (count_fits l) COUNT) (verdicts l) (when (ltb (length plan) (length (plan_of (forms l)))) ROOM) (length (plan_of (forms l)))

unfoldable pub compile_memory : List ℕ → List ℕ → List ℕ
compile_memory l plan = lent_after (compile_number l (length plan)) (plan_of (forms l)) plan

-- the places that a row needs: one a field
abbrev pub row_length : List Form → ℕ
row_length φs = length φs

-- the number that each field of a record gets, and the values of its row
abbrev pub unsaid : List (Option ℤ) → List ℕ
unsaid os = map unread os

abbrev pub amounts : List (Option ℤ) → List ℤ
amounts os = map said os

-- what each field of a record says, picture by picture
abbrev pub RecordReads : List Form → List ℕ → List (Option ℤ) → Type 0
RecordReads [] rec [] = Unit {0}
RecordReads [] rec (o ∷ os) = ⊥
RecordReads (φ ∷ φs) rec [] = ⊥
RecordReads (φ ∷ φs) rec (o ∷ os) = ReadsAs φ (take (size φ) rec) o × RecordReads φs (drop (size φ) rec) os

-- RULES 6.6, reading a record: behind PLAN 9, 7, and then the fields
unfoldable pub read_before : List Form → List ℕ → ℕ → ℕ
read_before φs rec room = first_of (unless (eqb (length rec) (record_length φs)) LENGTH ∷ when (ltb room (row_length φs)) ROOM ∷ [])

unfoldable pub record_answer : List Form → List ℕ → ℕ → List (Option ℤ) → Answer
record_answer φs rec room os = answer_over (read_before φs rec room) (unsaid os) 0 (length φs)

unfoldable pub row_after : List Form → List ℕ → List ℤ → List (Option ℤ) → List ℤ
row_after φs rec row os = lent_after (number_over (read_before φs rec (length row)) (unsaid os) 0) (amounts os) row

-- the answer and the row are right for reading a record by these pictures
pub record RecordIs (φs : List Form) (rec : List ℕ) (row : List ℤ) (r : Answer) (after : List ℤ) : Type 0 where
  pub says : List (Option ℤ)
  pub reads : RecordReads φs rec says
  pub gives : r ≡ record_answer φs rec (length row) says
  pub leaves : after ≡ row_after φs rec row says

-- RULES 5.4 and 5.5: bytes that no accepted layout has are refused; else all is as that layout's own text has it. `Right φs` says what is right
-- for its pictures.
pub data ByPlan (b : List ℕ) (Refused : Type 0) (Right : List Form → Type 0) : Type 0 where
  as_no_plan : ((l : List ℕ) → HasPlan l b → ⊥) → Refused → ByPlan b Refused Right
  as_layout : (l : List ℕ) → HasPlan l b → Right (forms l) → ByPlan b Refused Right

abbrev pub not_plan : {A : Type 0} → List A → Answer → List A → Type 0
not_plan lent r after = (r ≡ answer PLAN 0 0 (pos 0)) × (after ≡ lent)

-- RULES 6.6: the answer and the row are right for reading a record by a plan
abbrev pub PlanReadIs : List ℕ → List ℕ → List ℤ → Answer → List ℤ → Type 0
PlanReadIs b rec row r after = ByPlan b (not_plan row r after) (λ φs. RecordIs φs rec row r after)

-- 6 before 8 within a field, the value at the field's own scale, in this mode
abbrev pub number_in : Rounding → Form → ℤ → ℕ
number_in w φ m = first_of (unless (in_range m (places φ)) VALUE ∷ when (too_big w φ m (places φ)) SIZE ∷ [])

-- the number that each field's value gets
unfoldable pub verdicts_in : Rounding → List Form → List ℤ → List ℕ
verdicts_in w [] row = []
verdicts_in w (φ ∷ φs) [] = []
verdicts_in w (φ ∷ φs) (m ∷ ms) = number_in w φ m ∷ verdicts_in w φs ms

-- the fields of the row's values, one after the other
unfoldable pub record_in : Rounding → List Form → List ℤ → List ℕ
record_in w [] row = []
record_in w (φ ∷ φs) [] = []
record_in w (φ ∷ φs) (m ∷ ms) = edited w φ m (places φ) ++ record_in w φs ms

-- RULES 5.5: at its own scale a field is the same in both modes (`own_modes` in proofs/Modes.antt), and rounding stands for either
abbrev pub field_number : Form → ℤ → ℕ
field_number φ m = number_in HalfAway φ m

abbrev pub field_of : Form → ℤ → List ℕ
field_of φ m = edited HalfAway φ m (places φ)

abbrev pub edit_verdicts : List Form → List ℤ → List ℕ
edit_verdicts φs row = verdicts_in HalfAway φs row

abbrev pub record_of : List Form → List ℤ → List ℕ
record_of φs row = record_in HalfAway φs row

-- RULES 6.6, editing a row: behind PLAN 9, the fields, 7
unfoldable pub row_number : List Form → List ℤ → ℕ → ℕ
row_number φs row room =
    number_over (unless (eqb (length row) (row_length φs)) LENGTH) (edit_verdicts φs row) (when (ltb room (record_length φs)) ROOM)

unfoldable pub row_answer : List Form → List ℤ → ℕ → Answer
row_answer φs row room =
    answer_over (unless (eqb (length row) (row_length φs)) LENGTH) (edit_verdicts φs row) (when (ltb room (record_length φs)) ROOM) (record_length φs)

-- the answer and the record are right for editing a row by these pictures
pub record RowIs (φs : List Form) (row : List ℤ) (out : List ℕ) (r : Answer) (after : List ℕ) : Type 0 where
  pub gives : r ≡ row_answer φs row (length out)
  pub leaves : after ≡ lent_after (row_number φs row (length out)) (record_of φs row) out

-- RULES 6.6: the answer and the record are right for editing a row by a plan
abbrev pub PlanEditIs : List ℕ → List ℤ → List ℕ → Answer → List ℕ → Type 0
PlanEditIs b row out r after = ByPlan b (not_plan out r after) (λ φs. RowIs φs row out r after)
