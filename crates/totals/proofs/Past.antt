-- The history of a sheet: whatever was added by one plan since it was empty, it holds the totals of exactly
-- the records that were accepted, and behind a refusal it is what was handed in. Each addition is any that
-- meets the contract, so that this holds of the code. An addition leaves the sheet or has one row more, by
-- the number that came back; the rest is an induction over the history. Assumes nothing.
use Prim.Native.Nat.{ℕ, zero, suc, ◌<◌, ◌≤◌}
use mathlib.Core.Path.{◌≡◌, refl, sym, ◌∙◌, ap}
use mathlib.Core.Bool.{true, false, and-false, true≢false, false≢true}
use mathlib.Core.Logic.{◌⊎◌, inl, inr, ⊎_elim}
use mathlib.Core.List.{List, [], ◌∷◌, map}
use mathlib.Core.Option.{Option, none, some}
use native.Mathlib.Omega.{arith}
use borrow.Author.Tests.{eq-eqb, eqb-true, eqb-false, ne_eqb}
use lib.Dec.{eqb}
use lib.IntN.{ℤ, pos, ◌+ℤ◌}
use lib.ListN.{length, get_or, length-map, replicate}
use Rattle.rules.specs.Numbers.{first_of}
use Rattle.rules.specs.Form.{Form}
use Rattle.rules.specs.Layout.{HasPlan, forms, most_pictures, record_length}
use Rattle.rules.specs.Answers.{amounts, answer, answer_over, as_layout, as_no_plan, number_over, row_length, unsaid}
use Rattle.rules.specs.PlanBytes.{all_good}
use Rattle.rules.proofs.Firsts.{first_zero}
use Rattle.rules.proofs.Logic.{by_test}
use Rattle.rules.proofs.Outcomes.{of_layout, one_outcome, record_reads_one, reads_count}
use Rattle.rules.proofs.Plans.{forms_count, forms_good}
use Rattle.std.specs.Prelude.{Result}
use Rattle.rules.specs.declared.Refused.{Refused}
use Rattle.rules.proofs.Refusing.{fields_one}
use Rattle.totals.specs.declared.Added.{Added as CodeAdded}
use Rattle.totals.specs.declared.Sheet.{Sheet}
use Rattle.totals.specs.Batch.{placed, record_at}
use Rattle.totals.specs.Totals.{AddIs, Added, BatchAddedIs, RecordAddIs, RecordAddedIs, add_before, added_by, added_in, empty_sheet, field_numbers, greater, lesser, batch_added, over, record_added, sheet_by, with_row}
use Rattle.totals.specs.History.{HoldsTotals, Offer, Rows, Went, alone, begun, column, further, greatest_of, is_accepted, kept, least_of, none as no_rows, passed, total}
use Rattle.totals.proofs.Columns.{length_over, over_at, over_rest}
use Rattle.totals.proofs.Alone.{as_batch, other_length}

-- The contracts determine the answer and the sheet.

record_added_one : (φs : List Form) (rec : List ℕ) (s : Sheet) (r q : Added) → all_good φs ≡ true → RecordAddedIs φs rec s r → RecordAddedIs φs rec s q → r ≡ q
record_added_one φs rec s r q g a b =
    let e = record_reads_one φs rec g a.says b.says a.reads b.reads in
    a.gives ∙ ap (λ (os : List (Option ℤ)). record_added φs rec s os) e ∙ sym b.gives

pub record_add_one : (b rec : List ℕ) (s : Sheet) (r q : Added) → RecordAddIs b rec s r → RecordAddIs b rec s q → r ≡ q
record_add_one b rec s r q = one_outcome b (λ x y. x ∙ sym y) (λ φs h. record_added_one φs rec s r q h)

pub batch_added_one : (φs : List Form) (batch : List ℕ) (at : ℕ) (s : Sheet) (r q : Added) → all_good φs ≡ true → BatchAddedIs φs batch at s r → BatchAddedIs φs batch at s q
    → r ≡ q
batch_added_one φs batch at s r q g a b =
    let e = record_reads_one φs (record_at φs batch at) g a.says b.says a.reads b.reads in
    a.gives ∙ ap (λ (os : List (Option ℤ)). batch_added φs batch at s os) e ∙ sym b.gives

pub add_one : (b batch : List ℕ) (at : ℕ) (s : Sheet) (r q : Added) → AddIs b batch at s r → AddIs b batch at s q → r ≡ q
add_one b batch at s r q = one_outcome b (λ x y. x ∙ sym y) (λ φs h. batch_added_one φs batch at s r q h)

-- So do they what the code hands back, which is read as such.

pub added_one : (r q : CodeAdded) → added_in r ≡ added_in q → r ≡ q
added_one r q e =
    ap (λ (o : Result ℕ Refused). record { outcome = o; sheet = r.sheet }) (fields_one r.outcome q.outcome (ap (λ (a : Added). a.answer) e))
    ∙ ap (λ (s : Sheet). record { outcome = q.outcome; sheet = s }) (ap (λ (a : Added). a.sheet) e)

-- What one addition does to the sheet, by what stands of it in the history.

abbrev offered : List ℕ → ℕ → Added → Offer
offered batch at r = record { batch = batch; place = at; number = r.answer.number }

pub number_of : (n field l : ℕ) (m : ℤ) → (answer n field l m).number ≡ n
number_of zero field l m = refl
number_of (suc n) field l m = refl

module _ (φs : List Form) (batch : List ℕ) (at : ℕ) (s : Sheet) (r : Added) (a : BatchAddedIs φs batch at s r) where
  abbrev pub before : ℕ
  before = add_before s (placed (record_length φs) (length batch) at)

  at_end : at ≡ length batch → (r.sheet ≡ s) × (is_accepted (offered batch at r) ≡ false)
  unfolding batch_added is_accepted
  at_end e =
      (ap (λ (x : Added). x.sheet) a.gives ∙ rw (eq-eqb at (length batch) e), rw (eq-eqb at (length batch) e) (and-false (eqb r.answer.number 0)))

  -- the number of the record's own refusals
  abbrev pub judged : ℕ
  judged = number_over before (field_numbers s a.says) 0

  module _ (n : at ≡ length batch → ⊥) where
    pub is_added : r ≡ added_by before φs s a.says
    unfolding batch_added
    is_added = a.gives ∙ rw (ne_eqb at (length batch) n)

    pub number_is : r.answer.number ≡ judged
    unfolding added_by answer_over
    number_is = ap (λ (x : Added). x.answer.number) is_added ∙ number_of judged _ _ _

    pub sheet_is : r.sheet ≡ sheet_by judged s (amounts a.says)
    unfolding added_by
    sheet_is = ap (λ (x : Added). x.sheet) is_added

    by_number : (k : ℕ) → judged ≡ k → (is_accepted (offered batch at r) ≡ false → r.sheet ≡ s) × (is_accepted (offered batch at r) ≡ true → (r.sheet ≡ with_row s (amounts a.says)) × (judged ≡ 0))
    unfolding is_accepted
    by_number zero e =
        (λ f. absurd (true≢false (sym (rw (number_is, e, ne_eqb at (length batch) n)) ∙ f)), λ _. (rw e at sheet_is, e))
    by_number (suc k) e =
        (λ _. rw e at sheet_is, λ f. absurd (false≢true (sym (rw (number_is, e, ne_eqb (suc k) 0 (λ z. omega arith))) ∙ f)))

  stays : is_accepted (offered batch at r) ≡ false → r.sheet ≡ s
  stays f = by_test (eqb at (length batch)) (λ e. (at_end (eqb-true at (length batch) e)).0) (λ e. (by_number (eqb-false at (length batch) e) _ refl).0 f)

  grows : is_accepted (offered batch at r) ≡ true → (r.sheet ≡ with_row s (amounts a.says)) × (judged ≡ 0)
  grows f =
      by_test (eqb at (length batch))
      (λ e. absurd (true≢false (sym f ∙ (at_end (eqb-true at (length batch) e)).1)))
      (λ e. (by_number (eqb-false at (length batch) e) _ refl).1 f)

-- behind a refusal the sheet is what was handed in
pub refused_stays : (b batch : List ℕ) (at : ℕ) (s : Sheet) (r : Added) → AddIs b batch at s r → (r.answer.number ≡ 0 → ⊥) → r.sheet ≡ s
unfolding is_accepted
refused_stays b batch at s r (as_no_plan n x) h = ap (λ (y : Added). y.sheet) x
refused_stays b batch at s r (as_layout l p a) h = stays (forms l) batch at s r a (rw (ne_eqb r.answer.number 0 h))

-- One more row.

said_some : (ms : List ℤ) → amounts (map some ms) ≡ ms
said_some [] = refl
said_some (m ∷ ms) = ap (λ (t : List ℤ). m ∷ t) (said_some ms)

-- the sheet has its places, and holds the totals
record Kept (places : ℕ) (s : Sheet) (rows : List (List ℤ)) : Type 0 where
  sums : length s.sums ≡ most_pictures
  leasts : length s.least ≡ most_pictures
  greatests : length s.greatest ≡ most_pictures
  holds : HoldsTotals places s rows

-- least and greatest, one value more
least_more : (ms : List ℤ) (m : ℤ) → lesser (eqb (length ms) 0) (least_of ms) m ≡ least_of (m ∷ ms)
unfolding lesser least_of
least_more [] m = refl
least_more (k ∷ ms) m = rw (ne_eqb (suc (length ms)) 0 (λ z. omega arith))

greatest_more : (ms : List ℤ) (m : ℤ) → greater (eqb (length ms) 0) (greatest_of ms) m ≡ greatest_of (m ∷ ms)
unfolding greater greatest_of
greatest_more [] m = refl
greatest_more (k ∷ ms) m = rw (ne_eqb (suc (length ms)) 0 (λ z. omega arith))

zero_at : (n i : ℕ) → get_or (replicate n (pos 0)) i (pos 0) ≡ pos 0
zero_at zero i = refl
zero_at (suc n) zero = refl
zero_at (suc n) (suc i) = zero_at n i

empty_holds : (places : ℕ) → places ≤ most_pictures → Kept places empty_sheet []
unfolding total least_of greatest_of column
empty_holds places l =
    let z : (i : ℕ) → get_or empty_sheet.sums i (pos 0) ≡ pos 0 = λ i. zero_at most_pictures i in
    record {
      sums = refl;
      leasts = refl;
      greatests = refl;
      holds = record { count = refl; sums = λ i _. z i; leasts = λ i _. z i; greatests = λ i _. z i; behind = λ i _. (z i, z i, z i) };
    }

module _ (places : ℕ) (s : Sheet) (rows : List (List ℤ)) (k : Kept places s rows) (few : places ≤ most_pictures) (ms : List ℤ) (n : length ms ≡ places) where
  -- a column is as long as the count says
  one_row : (i : ℕ) → length (column i rows) ≡ s.count
  unfolding column
  one_row i = length-map rows (λ (row : List ℤ). get_or row i (pos 0)) ∙ sym k.holds.count

  more_holds : Kept places (with_row s ms) (ms ∷ rows)
  unfolding with_row total column
  more_holds =
      let first = eqb s.count 0 in
      let low : (i : ℕ) → i < places → get_or (over (lesser first) s.least ms) i (pos 0) ≡ least_of (get_or ms i (pos 0) ∷ column i rows) =
      λ i h. over_at (lesser first) s.least ms i (omega (arith, k.leasts)) (omega arith) ∙ rw (k.holds.leasts i h, ← one_row i) (least_more (column i rows) _) in
      let high : (i : ℕ) → i < places → get_or (over (greater first) s.greatest ms) i (pos 0) ≡ greatest_of (get_or ms i (pos 0) ∷ column i rows) =
      λ i h. over_at (greater first) s.greatest ms i (omega (arith, k.greatests)) (omega arith) ∙ rw (k.holds.greatests i h, ← one_row i) (greatest_more (column i rows) _) in
      let rest : (f : ℤ → ℤ → ℤ) (xs : List ℤ) (i : ℕ) → places ≤ i → get_or (over f xs ms) i (pos 0) ≡ get_or xs i (pos 0) = λ f xs i h. over_rest f xs ms i (omega arith) in
      record {
        sums = length_over ◌+ℤ◌ s.sums ms ∙ k.sums;
        leasts = length_over (lesser first) s.least ms ∙ k.leasts;
        greatests = length_over (greater first) s.greatest ms ∙ k.greatests;
        holds = record {
          count = omega (arith, k.holds.count);
          sums = λ i h. over_at ◌+ℤ◌ s.sums ms i (omega (arith, k.sums)) (omega arith) ∙ rw (k.holds.sums i h);
          leasts = low;
          greatests = high;
          behind = λ i h.
              let z = k.holds.behind i h in
              (rest ◌+ℤ◌ s.sums i h ∙ z.0, rest (lesser first) s.least i h ∙ z.1, rest (greater first) s.greatest i h ∙ z.2);
        };
      }

-- a record with no refusal has a value in every field
all_some : (os : List (Option ℤ)) → first_of (unsaid os) ≡ 0 → map some (amounts os) ≡ os
unfolding first_of
all_some [] h = refl
all_some (none ∷ os) h = absurd (omega arith)
all_some (some m ∷ os) h = ap (λ (t : List (Option ℤ)). some m ∷ t) (all_some os h)

all_said : (s : Sheet) (os : List (Option ℤ)) (n : ℕ) → number_over n (field_numbers s os) 0 ≡ 0 → first_of (unsaid os) ≡ 0
unfolding number_over field_numbers
all_said s os n h =
    let e = (first_zero (first_of (field_numbers s os)) _ (first_zero n _ h).1).0 in
    by_test (eqb (first_of (unsaid os)) 0) (λ t. eqb-true _ 0 t) (λ t. rw t at e)

-- The history.

module _ (b l : List ℕ) (p : HasPlan l b) where
  abbrev φs : List Form
  φs = forms l

  good : all_good φs ≡ true
  good = forms_good l p.layout

  right : (batch : List ℕ) (at : ℕ) (s : Sheet) (r : Added) → AddIs b batch at s r → BatchAddedIs φs batch at s r
  right batch at s r a = of_layout l b p _ (λ φs. BatchAddedIs φs batch at s r) a

  right_alone : (rec : List ℕ) (s : Sheet) (r : Added) → RecordAddIs b rec s r → RecordAddedIs φs rec s r
  right_alone rec s r a = of_layout l b p _ (λ φs. RecordAddedIs φs rec s r) a

  -- a record alone is a batch of one, or is refused and leaves the sheet
  pub alone_as : (rec : List ℕ) (s : Sheet) (r : Added) → RecordAddIs b rec s r
      → BatchAddedIs φs rec 0 s r ⊎ ((r.answer.number ≡ 0 → ⊥) × (r.sheet ≡ s))
  alone_as rec s r a =
      let c = forms_count l p.layout in
      let x = right_alone rec s r a in
      by_test (eqb (length rec) (record_length φs))
      (λ e. inl (as_batch φs rec s r good c.0 c.1 x (eqb-true _ _ e)))
      (λ e. inr (other_length φs rec s r good c.0 c.1 x (eqb-false _ _ e)))

  module _ (batch : List ℕ) (at : ℕ) (s : Sheet) (r : Added) where
    -- one addition more, as the history has it
    keeps_more : BatchAddedIs φs batch at s r → {h : List Offer} (rows : List (List ℤ)) → ((rs : List (List ℤ)) → Rows φs h rs → Kept (row_length φs) s rs)
        → Rows φs (offered batch at r ∷ h) rows → Kept (row_length φs) r.sheet rows
    keeps_more x rows k (passed f q) = rw (stays φs batch at s r x f) (k rows q)
    keeps_more x _ k (kept {rows = rows} {ms = ms} f reads q) =
        let e : x.says ≡ map some ms = record_reads_one φs (record_at φs batch at) good x.says (map some ms) x.reads reads in
        let g : r.sheet ≡ with_row s ms = (grows φs batch at s r x f).0 ∙ rw (e, said_some ms) in
        let n : length ms ≡ row_length φs = sym (length-map ms some) ∙ reads_count φs _ (map some ms) reads in
        rw g (more_holds (row_length φs) s rows (k rows q) (forms_count l p.layout).1 ms n)

    keeps_refused : (r.answer.number ≡ 0 → ⊥) → r.sheet ≡ s → {h : List Offer} (rows : List (List ℤ)) → ((rs : List (List ℤ)) → Rows φs h rs → Kept (row_length φs) s rs)
        → Rows φs (offered batch at r ∷ h) rows → Kept (row_length φs) r.sheet rows
    unfolding is_accepted
    keeps_refused n e rows k (passed f q) = rw e (k rows q)
    keeps_refused n e _ k (kept f reads q) = absurd (false≢true (sym (rw (ne_eqb r.answer.number 0 n)) ∙ f))

    -- and a row more for it, where it was accepted
    rows_more : BatchAddedIs φs batch at s r → {h : List Offer} → (rs : List (List ℤ)) × Rows φs h rs → (rs : List (List ℤ)) × Rows φs (offered batch at r ∷ h) rs
    rows_more x q =
        by_test (is_accepted (offered batch at r))
        (λ f. (amounts x.says ∷ q.0, kept f (rw (all_some x.says (all_said s x.says _ (grows φs batch at s r x f).1)) x.reads) q.1))
        (λ f. (q.0, passed f q.1))

    rows_refused : (r.answer.number ≡ 0 → ⊥) → {h : List Offer} → (rs : List (List ℤ)) × Rows φs h rs → (rs : List (List ℤ)) × Rows φs (offered batch at r ∷ h) rs
    unfolding is_accepted
    rows_refused n q =
        let f : is_accepted (offered batch at r) ≡ false = rw (ne_eqb r.answer.number 0 n) in
        (q.0, passed f q.1)

  keeps : (h : List Offer) (s : Sheet) → Went b h s → (rows : List (List ℤ)) → Rows φs h rows → Kept (row_length φs) s rows
  keeps _ _ begun _ no_rows = empty_holds (row_length φs) (forms_count l p.layout).1
  keeps _ _ (further {h} {s} w batch at r a) rows q = keeps_more batch at s r (right batch at s r a) rows (λ rs x. keeps h s w rs x) q
  keeps _ _ (alone {h} {s} w rec r a) rows q =
      ⊎_elim (λ x. keeps_more rec 0 s r x rows (λ rs y. keeps h s w rs y) q) (λ x. keeps_refused rec 0 s r x.0 x.1 rows (λ rs y. keeps h s w rs y) q) (alone_as rec s r a)

  -- the count, sums, least and greatest are those of the records accepted, and behind their places stands
  -- nothing
  pub history : (h : List Offer) (s : Sheet) → Went b h s → (rows : List (List ℤ)) → Rows φs h rows → HoldsTotals (row_length φs) s rows
  history h s w rows q = (keeps h s w rows q).holds

  -- and there are such rows: a record accepted has a value in every field
  pub rows : (h : List Offer) (s : Sheet) → Went b h s → (rs : List (List ℤ)) × Rows φs h rs
  rows _ _ begun = ([], no_rows)
  rows _ _ (further {h} {s} w batch at r a) = rows_more batch at s r (right batch at s r a) (rows h s w)
  rows _ _ (alone {h} {s} w rec r a) =
      ⊎_elim (λ x. rows_more rec 0 s r x (rows h s w)) (λ x. rows_refused rec 0 s r x.0 (rows h s w)) (alone_as rec s r a)

-- behind a refusal of a record alone the sheet is what was handed in too
pub refused_stays_alone : (b rec : List ℕ) (s : Sheet) (r : Added) → RecordAddIs b rec s r → (r.answer.number ≡ 0 → ⊥) → r.sheet ≡ s
unfolding is_accepted
refused_stays_alone b rec s r (as_no_plan n x) h = ap (λ (y : Added). y.sheet) x
refused_stays_alone b rec s r (as_layout l p a) h =
    ⊎_elim (λ x. stays (forms l) rec 0 s r x (rw (ne_eqb r.answer.number 0 h))) (λ x. x.1) (alone_as b l p rec s r (as_layout l p a))

-- Bytes that no layout has as its plan leave an empty sheet empty.
pub unplanned : (b : List ℕ) → ((l : List ℕ) → HasPlan l b → ⊥) → (h : List Offer) (s : Sheet) → Went b h s → s ≡ empty_sheet
unplanned b n _ _ begun = refl
unplanned b n _ _ (further {h} {s} w batch at r (as_no_plan m x)) = ap (λ (y : Added). y.sheet) x ∙ unplanned b n h s w
unplanned b n _ _ (further {h} {s} w batch at r (as_layout l p x)) = absurd (n l p)
unplanned b n _ _ (alone {h} {s} w rec r (as_no_plan m x)) = ap (λ (y : Added). y.sheet) x ∙ unplanned b n h s w
unplanned b n _ _ (alone {h} {s} w rec r (as_layout l p x)) = absurd (n l p)
