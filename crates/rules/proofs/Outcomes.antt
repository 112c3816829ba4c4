-- What a call's contract asks determines the answer and the lent memory: two outcomes that meet it are equal. And the candidate's outcome meets
-- it. Both rest on the exactness of reading and on a plan's having one list of forms. Assumes nothing.
use mathlib.Core.Path.{◌≡◌, refl, sym, ◌∙◌, ap}
use mathlib.Core.Bool.{true, false}
use mathlib.Core.List.{List, [], ◌∷◌}
use mathlib.Core.Option.{Option, none, some}
use Prim.Native.Nat.{ℕ, zero, suc}
use lib.IntN.{ℤ}
use lib.ListN.{length, take, drop}
use Rattle.rules.specs.Numbers.{first_of}
use Rattle.rules.specs.Form.{Form, meaning, size}
use Rattle.rules.specs.Shape.{digits_fit, verdict}
use Rattle.rules.specs.Layout.{HasPlan, accepted, forms, plan_of}
use Rattle.rules.specs.Answers.{ByPlan, PlanEditIs, PlanReadIs, ReadIs, RecordIs, RecordReads, RowIs, as_layout, as_no_plan, read_answer, record_answer, row_after}
use Rattle.rules.specs.Good.{good}
use Rattle.rules.specs.Candidate.{option_of, read_all, read_of}
use Rattle.rules.specs.PlanBytes.{all_good, forms_in, is_plan}
use Rattle.rules.specs.declared.Answer.{Answer}
use Rattle.std.specs.Prelude.{None, Some}
use Rattle.rules.proofs.Exact.{reads_of, reads_one}
use Rattle.rules.proofs.Forms.{accepted_good, good_parts}
use Rattle.rules.proofs.Logic.{both, by_test}
use Rattle.rules.proofs.Plans.{forms_good, layout_one, no_layout, plan_has}

good_digits : (φ : Form) → good φ ≡ true → digits_fit φ ≡ true
good_digits φ h = (good_parts φ h).digits

-- Reading one field.

-- an option of the code, and what it says
pub value_in : (o : Option ℤ) (m : ℤ) → option_of o ≡ Some m → o ≡ some m
value_in none m e = cc
value_in (some k) m e = cc

pub none_in : (o : Option ℤ) → option_of o ≡ None → o ≡ none
none_in none e = refl
none_in (some k) e = cc

-- the candidate's answer is right
pub read_is : (t f : List ℕ) → ReadIs t f (read_answer t f (read_of (meaning t) f))
read_is t f = record { says = read_of (meaning t) f; reads = λ v. reads_of (meaning t) f (good_digits (meaning t) (accepted_good t v)); gives = refl }

same_refusal : (t f : List ℕ) (o p : Option ℤ) (v : ℕ) → verdict t ≡ suc v → read_answer t f o ≡ read_answer t f p
unfolding read_answer first_of
same_refusal t f o p v e = rw e

pub read_one : (t f : List ℕ) (r s : Answer) → ReadIs t f r → ReadIs t f s → r ≡ s
read_one t f r s a b = a.gives ∙ at (verdict t) refl ∙ sym b.gives
  where
    at : (v : ℕ) → verdict t ≡ v → read_answer t f a.says ≡ read_answer t f b.says
    at zero e = ap (λ (o : Option ℤ). read_answer t f o) (reads_one (meaning t) (good_parts (meaning t) (accepted_good t e)) f a.says b.says (a.reads e) (b.reads e))
    at (suc v) e = same_refusal t f a.says b.says v e

-- Reading a record.

-- a field says one thing
pub reads_count : (φs : List Form) (rec : List ℕ) (os : List (Option ℤ)) → RecordReads φs rec os → length os ≡ length φs
reads_count [] rec [] h = refl
reads_count [] rec (o ∷ os) h = absurd h
reads_count (φ ∷ φs) rec [] h = absurd h
reads_count (φ ∷ φs) rec (o ∷ os) h = ap suc (reads_count φs _ os h.1)

pub all_read : (φs : List Form) (rec : List ℕ) → all_good φs ≡ true → RecordReads φs rec (read_all φs rec)
unfolding all_good read_all
all_read [] rec h = tt
all_read (φ ∷ φs) rec h =
    let w = both (good φ) (all_good φs) h in
    (reads_of φ (take (size φ) rec) (good_digits φ w.0), all_read φs (drop (size φ) rec) w.1)

pub record_reads_one : (φs : List Form) (rec : List ℕ) → all_good φs ≡ true → (os ps : List (Option ℤ)) → RecordReads φs rec os → RecordReads φs rec ps → os ≡ ps
unfolding all_good
record_reads_one [] rec h [] [] a b = refl
record_reads_one [] rec h [] (p ∷ ps) a b = absurd b
record_reads_one [] rec h (o ∷ os) ps a b = absurd a
record_reads_one (φ ∷ φs) rec h [] ps a b = absurd a
record_reads_one (φ ∷ φs) rec h (o ∷ os) [] a b = absurd b
record_reads_one (φ ∷ φs) rec h (o ∷ os) (p ∷ ps) a b =
    let w = both (good φ) (all_good φs) h in
    rw (reads_one φ (good_parts φ w.0) (take (size φ) rec) o p a.0 b.0, record_reads_one φs (drop (size φ) rec) w.1 os ps a.1 b.1)

pub record_is : (φs : List Form) (rec : List ℕ) (row : List ℤ) → all_good φs ≡ true
    → RecordIs φs rec row (record_answer φs rec (length row) (read_all φs rec)) (row_after φs rec row (read_all φs rec))
record_is φs rec row h = record { says = read_all φs rec; reads = all_read φs rec h; gives = refl; leaves = refl }

pub record_one : (φs : List Form) (rec : List ℕ) (row : List ℤ) → all_good φs ≡ true → (r s : Answer) (x y : List ℤ)
    → RecordIs φs rec row r x → RecordIs φs rec row s y → (r ≡ s) × (x ≡ y)
record_one φs rec row h r s x y a b =
    let e = record_reads_one φs rec h a.says b.says a.reads b.reads in (
      a.gives ∙ ap (λ (os : List (Option ℤ)). record_answer φs rec (length row) os) e ∙ sym b.gives,
      a.leaves ∙ ap (λ (os : List (Option ℤ)). row_after φs rec row os) e ∙ sym b.leaves,
    )

-- By a plan, whichever layout one takes.

-- Two outcomes by the same bytes: both are refused, or both are right for the same forms. Where either makes them the same they are the same.
pub one_outcome : (b : List ℕ) {Refused Refused' Same : Type 0} {Right Right' : List Form → Type 0} → (Refused → Refused' → Same)
    → ((φs : List Form) → all_good φs ≡ true → Right φs → Right' φs → Same) → ByPlan b Refused Right → ByPlan b Refused' Right' → Same
one_outcome b f g (as_no_plan n p) (as_no_plan m q) = f p q
one_outcome b f g (as_no_plan n p) (as_layout l h q) = absurd (n l h)
one_outcome b f g (as_layout l h p) (as_no_plan m q) = absurd (m l h)
one_outcome b f g (as_layout l h p) (as_layout m k q) = g (forms l) (forms_good l h.layout) p (rw (layout_one b l m h k) q)

-- an answer and what it leaves, each of them said
pub same_pair : {A B : Type 0} {a r s : A} {l x y : B} → (r ≡ a) × (x ≡ l) → (s ≡ a) × (y ≡ l) → (r ≡ s) × (x ≡ y)
same_pair p q = (p.0 ∙ sym q.0, p.1 ∙ sym q.1)

pub plan_read_one : (b rec : List ℕ) (row : List ℤ) (r s : Answer) (x y : List ℤ) → PlanReadIs b rec row r x → PlanReadIs b rec row s y → (r ≡ s) × (x ≡ y)
plan_read_one b rec row r s x y = one_outcome b same_pair (λ φs h. record_one φs rec row h r s x y)

pub plan_edit_one : (b : List ℕ) (row : List ℤ) (out : List ℕ) (r s : Answer) (x y : List ℕ) → PlanEditIs b row out r x → PlanEditIs b row out s y → (r ≡ s) × (x ≡ y)
plan_edit_one b row out r s x y = one_outcome b same_pair (λ φs h p q. same_pair (p.gives, p.leaves) (q.gives, q.leaves))

-- two accepted layouts with one plan read every record and edit every row alike
pub alike : (b l m : List ℕ) → HasPlan l b → HasPlan m b → (Right : List Form → Type 0) → Right (forms l) → Right (forms m)
alike b l m p q Right h = rw (← layout_one b l m p q) h

-- The plan of an accepted layout is never refused as one: by it every outcome is that of the layout's own text.
pub of_layout : (l b : List ℕ) → HasPlan l b → (Refused : Type 0) (Right : List Form → Type 0) → ByPlan b Refused Right → Right (forms l)
of_layout l b p Refused Right (as_no_plan n q) = absurd (n l p)
of_layout l b p Refused Right (as_layout m q h) = alike b m l q p Right h

pub compiled_reads : (l : List ℕ) → accepted l ≡ true → (rec : List ℕ) (row : List ℤ) (r : Answer) (after : List ℤ) → PlanReadIs (plan_of (forms l)) rec row r after
    → RecordIs (forms l) rec row r after
compiled_reads l a rec row r after = of_layout l (plan_of (forms l)) (record { layout = a; plan = refl }) _ (λ φs. RecordIs φs rec row r after)

pub compiled_edits : (l : List ℕ) → accepted l ≡ true → (row : List ℤ) (out : List ℕ) (r : Answer) (after : List ℕ) → PlanEditIs (plan_of (forms l)) row out r after
    → RowIs (forms l) row out r after
compiled_edits l a row out r after = of_layout l (plan_of (forms l)) (record { layout = a; plan = refl }) _ (λ φs. RowIs φs row out r after)

-- What the plan's test decides: a refusal, or the outcome of some layout's forms, which are those that the bytes hold.
pub by_plan_lem : (b : List ℕ) (Refused : Type 0) (Right : List Form → Type 0) → (is_plan b ≡ false → Refused) → (is_plan b ≡ true → Right (forms_in b)) → ByPlan b Refused Right
by_plan_lem b Refused Right f g =
    by_test (is_plan b)
    (λ e. let w = plan_has b e in as_layout w.0 w.1 (rw w.2 (g e)))
    (λ e. as_no_plan (no_layout b e) (f e))
