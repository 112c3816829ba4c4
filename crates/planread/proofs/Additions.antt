-- Adding a record by a plan, at each way through it. What reading refuses before the fields is what the
-- addition refuses behind FULL, so that the answer of a refused reading is the addition's; and where all
-- fields have a value, the row that was read is added as it stands. Assumes nothing.
use Prim.Native.Nat.{ℕ, zero, suc, ◌+◌, ◌-◌, ◌<◌, ◌≤◌}
use mathlib.Core.Path.{◌≡◌, refl, sym, ◌∙◌, ap}
use mathlib.Core.Bool.{Bool, cond, true, false, false≢true, true≢false}
use mathlib.Core.List.{List, ◌++◌}
use mathlib.Core.Logic.{⊎_elim}
use mathlib.Core.Option.{Option}
use native.Mathlib.Omega.{arith}
use borrow.Author.Tests.{eq-eqb, ne_eqb, le-leb, lt-leb, le-ltb}
use lib.Dec.{eqb}
use lib.IntN.{ℤ, pos}
use lib.ListN.{length, take, drop, length-drop, length-map, length-take}
use lib.Seq.{take_all, take_at}
use Rattle.rules.specs.declared.Answer.{Answer}
use Rattle.rules.specs.declared.Refusal.{Refusal}
use Rattle.rules.specs.Numbers.{PLAN, first_of}
use Rattle.rules.specs.Refusals.{refusal_number}
use Rattle.rules.specs.Form.{Form}
use Rattle.rules.specs.Layout.{most_pictures, record_length}
use Rattle.rules.specs.Answers.{amounts, answer_over, number_over, read_before, record_answer, row_after, row_length, said, unsaid}
use Rattle.rules.specs.PlanBytes.{forms_in, is_plan}
use Rattle.rules.specs.Candidate.{read_all}
use Rattle.rules.proofs.Firsts.{first_zero}
use Rattle.rules.proofs.Logic.{by_test, lt_or_le}
use Rattle.rules.proofs.Outcomes.{all_read, by_plan_lem}
use Rattle.rules.proofs.Plans.{record_le}
use Rattle.rules.proofs.PlanWalk.{count_forms_in, plan_parts}
use Rattle.totals.specs.declared.Sheet.{Sheet}
use Rattle.totals.specs.Batch.{Next, NextIs, Record, Refused, most_batch, next_at, placed}
use Rattle.totals.specs.Totals.{AddIs, Added, BatchAddedIs, RecordAddIs, RecordAddedIs, add_before, added_by, field_numbers, most_records, not_added, batch_added, record_added, row_added, sheet_by}
use Rattle.totals.specs.History.{Along, Batched, goes_on, onward, stopped}
use Rattle.totals.proofs.Places.{at_within, plan_some, ways}
use Rattle.totals.proofs.Past.{number_of}
use Rattle.totals.proofs.Whole.{nearer}
use Rattle.planread.specs.Runs.{plan_added, plan_answer, plan_placed, plan_row}
use Rattle.rules.proofs.Refusing.{test_failed}
use Rattle.planread.proofs.Ways.{length_all}

-- the sheet as it was, beside an answer without a length
abbrev pub unchanged : ℕ → ℕ → Sheet → Added
unchanged n field s = record { answer = record { number = n; field = field; length = 0; value = pos 0 }; sheet = s }

-- behind a refusal the sheet is what was handed in
sheet_kept : (n : ℕ) (s : Sheet) (ms : List ℤ) → (n ≡ 0 → ⊥) → s ≡ sheet_by n s ms
sheet_kept zero s ms h = absurd (h refl)
sheet_kept (suc n) s ms h = refl

-- no refusal before the fields and none at them
none_over : (before : ℕ) (ns : List ℕ) → number_over before ns 0 ≡ 0 → (before ≡ 0) × (first_of ns ≡ 0)
unfolding number_over
none_over before ns h = let w = first_zero before _ h in (w.0, (first_zero (first_of ns) _ w.1).0)

-- Of any list of what fields say.

module _ (φs : List Form) (s : Sheet) (os : List (Option ℤ)) where
  -- refused before the fields
  pub before_way : (n : ℕ) → unchanged (suc n) 0 s ≡ added_by (suc n) φs s os
  unfolding added_by answer_over number_over first_of
  before_way n = rw (ne_eqb (suc n) 0 (λ z. omega arith))

  -- refused by reading, before the fields or at one
  unread_way : (before : ℕ) → (number_over before (unsaid os) 0 ≡ 0 → ⊥) → record { answer = answer_over before (unsaid os) 0 (length φs); sheet = s } ≡ added_by before φs s os
  unfolding added_by field_numbers answer_over number_over first_of
  unread_way zero n =
      rw (ne_eqb (first_of (unsaid os)) 0 (λ z. n (rw z)))
      (ap (λ (t : Sheet). record { answer = answer_over 0 (unsaid os) 0 (length φs); sheet = t }) (sheet_kept (number_over 0 (unsaid os) 0) s (amounts os) n))
  unread_way (suc k) n = rw (ne_eqb (suc k) 0 (λ z. omega arith))

  -- read, and added as a row
  read_way : s.count < most_records → length os ≡ length φs → first_of (unsaid os) ≡ 0 → row_added s (amounts os) ≡ added_by 0 φs s os
  unfolding added_by field_numbers row_added
  read_way l n z = rw (eq-eqb (first_of (unsaid os)) 0 z, lt-leb most_records s.count l, ← n, ← length-map os said)

-- By bytes that are a plan.

module _ (b rec : List ℕ) (s : Sheet) where
  abbrev φs : List Form
  φs = forms_in b

  abbrev os : List (Option ℤ)
  os = read_all (forms_in b) rec

  pub full_way : most_records ≤ s.count → unchanged 14 0 s ≡ plan_added b rec s
  unfolding plan_added record_added add_before first_of
  full_way l = rw (le-leb most_records s.count l) (before_way φs s os 13)

  module _ (h : is_plan b ≡ true) (l : s.count < most_records) (row : List ℤ) (size : length row ≡ 32) (r : Answer) (e : r ≡ plan_answer b rec row) where
    -- what reading refuses before the fields
    before_is : add_before s (eqb (length rec) (record_length φs)) ≡ read_before φs rec (length row)
    unfolding add_before read_before first_of
    before_is =
        rw (lt-leb most_records s.count l, le-ltb (length row) (row_length φs) (omega (arith, size, count_forms_in b, (plan_parts b h).few)))
        (by_test (eqb (length rec) (record_length φs)) (λ t. rw t) (λ t. rw t))

    number_is : r.number ≡ number_over (read_before φs rec (length row)) (unsaid os) 0
    unfolding plan_answer record_answer answer_over
    number_is = ap (λ (x : Answer). x.number) e ∙ number_of _ _ _ _

    pub refused_way : (r.number ≡ 0 → ⊥) → record { answer = r; sheet = s } ≡ plan_added b rec s
    unfolding plan_added record_added plan_answer record_answer
    refused_way n = rw (before_is, e) (unread_way φs s os (read_before φs rec (length row)) (λ z. n (number_is ∙ z)))

    -- and where all is read, the values are the first of the row
    module _ (z : r.number ≡ 0) where
      none : number_over (read_before φs rec (length row)) (unsaid os) 0 ≡ 0
      none = sym number_is ∙ z

      count : r.length ≡ length φs
      unfolding plan_answer record_answer answer_over
      count = ap (λ (x : Answer). x.length) e ∙ rw none

      pub few : r.length ≤ most_pictures
      few = omega (arith, count, count_forms_in b, (plan_parts b h).few)

      pub added_way : (after : List ℤ) → after ≡ plan_row b rec row → row_added s (take most_pictures (take r.length after)) ≡ plan_added b rec s
      unfolding plan_added record_added plan_row row_after
      added_way after a =
          let w = none_over _ _ none in
          let c = length_all φs rec in
          let k : after ≡ amounts os ++ drop (length (amounts os)) row = a ∙ rw none in
          let m : length (amounts os) ≡ length φs = length-map os said ∙ c in
          let t : take r.length after ≡ amounts os = rw (count, k) (take_at (amounts os) _ (length φs) m) in
          rw (t, take_all most_pictures (amounts os) (omega (arith, few, count, m)), before_is, w.0) (read_way φs s os l c w.1)

-- Each contract by what is computed.
module _ (b : List ℕ) (h : is_plan b ≡ true) where
  pub added_is : (rec : List ℕ) (s : Sheet) (r : Added) → r ≡ plan_added b rec s → RecordAddIs b rec s r
  unfolding plan_added
  added_is rec s r e =
      by_plan_lem b (not_added s r) (λ φs. RecordAddedIs φs rec s r) (λ n. absurd (true≢false (sym h ∙ n)))
      (λ _. record { says = _; reads = all_read _ _ (plan_parts b h).good; gives = e })

  pub placed_is : (batch : List ℕ) (at : ℕ) (s : Sheet) (r : Added) → r ≡ plan_placed b batch at s → AddIs b batch at s r
  unfolding plan_placed
  placed_is batch at s r e =
      by_plan_lem b (not_added s r) (λ φs. BatchAddedIs φs batch at s r) (λ n. absurd (true≢false (sym h ∙ n)))
      (λ _. record { says = _; reads = all_read _ _ (plan_parts b h).good; gives = e })

  pub next_is : (batch : List ℕ) (at n : ℕ) (r : Next) → n ≡ record_length (forms_in b) → r ≡ next_at n (length batch) at → NextIs b batch at r
  next_is batch at n r z e =
      by_plan_lem b (r ≡ Refused 12) (λ φs. r ≡ next_at (record_length φs) (length batch) at) (λ f. absurd (true≢false (sym h ∙ f))) (λ _. rw (← z) e)

-- By bytes that are no plan, where the judging of them refused.
module _ (b : List ℕ) (r : Refusal) (e : refusal_number r ≡ cond (is_plan b) 0 PLAN) where
  no_plan : is_plan b ≡ false
  no_plan = (test_failed r (is_plan b) PLAN e).0

  number : refusal_number r ≡ PLAN
  number = (test_failed r (is_plan b) PLAN e).1

  no_layout : {A : Type 0} → is_plan b ≡ true → A
  no_layout h = absurd (true≢false (sym h ∙ no_plan))

  pub next_none : (batch : List ℕ) (at : ℕ) → NextIs b batch at (Refused (refusal_number r))
  next_none batch at =
      by_plan_lem b (Refused (refusal_number r) ≡ Refused PLAN) (λ φs. Refused (refusal_number r) ≡ next_at (record_length φs) (length batch) at) (λ _. rw number) no_layout

  pub none_alone : (rec : List ℕ) (s : Sheet) → RecordAddIs b rec s (unchanged (refusal_number r) 0 s)
  none_alone rec s =
      let a = unchanged (refusal_number r) 0 s in
      by_plan_lem b (not_added s a) (λ φs. RecordAddedIs φs rec s a) (λ _. rw number) no_layout

  pub none_placed : (batch : List ℕ) (at : ℕ) (s : Sheet) → AddIs b batch at s (unchanged (refusal_number r) 0 s)
  none_placed batch at s =
      let a = unchanged (refusal_number r) 0 s in
      by_plan_lem b (not_added s a) (λ φs. BatchAddedIs φs batch at s a) (λ _. rw number) no_layout

  -- a whole batch stops at once
  pub none_along : (batch : List ℕ) (at : ℕ) (s : Sheet)
      → Along b batch at s (record { answer = record { number = refusal_number r; field = 0; length = 0; value = pos 0 }; place = at; sheet = s })
  unfolding goes_on
  none_along batch at s = stopped (unchanged (refusal_number r) 0 s) (none_placed batch at s) (rw number)

-- the characters of a plan's record
pub size_fits : (b : List ℕ) → is_plan b ≡ true → (1 ≤ record_length (forms_in b)) × (record_length (forms_in b) ≤ most_batch)
size_fits b h =
    let p = plan_parts b h in
    (plan_some b h, omega (arith, p.few, record_le _ p.good, count_forms_in b))

-- At a place of a batch.
module _ (b batch : List ℕ) (at : ℕ) (s : Sheet) where
  abbrev whole : Bool
  whole = placed (record_length (forms_in b)) (length batch) at

  refused_before : (n : ℕ) → add_before s whole ≡ suc n → unchanged (suc n) 0 s ≡ plan_placed b batch at s
  unfolding plan_placed batch_added
  refused_before n e = by_test (eqb at (length batch)) (λ t. rw (t, e)) (λ t. rw (t, e) (before_way (forms_in b) s _ n))

  pub full_place : most_records ≤ s.count → unchanged 14 0 s ≡ plan_placed b batch at s
  unfolding add_before first_of
  full_place l = refused_before 13 (rw (le-leb most_records s.count l))

  pub length_place : s.count < most_records → whole ≡ false → unchanged 9 0 s ≡ plan_placed b batch at s
  unfolding add_before first_of
  length_place l p = refused_before 8 (rw (lt-leb most_records s.count l, p))

  pub end_place : s.count < most_records → whole ≡ true → at ≡ length batch → unchanged 0 0 s ≡ plan_placed b batch at s
  unfolding plan_placed batch_added add_before first_of
  end_place l p e = rw (eq-eqb at (length batch) e, lt-leb most_records s.count l, p)

  -- the part of the batch that is handed over is the record
  pub part_place : whole ≡ true → (at ≡ length batch → ⊥) → at + record_length (forms_in b) ≤ length batch → (from to : ℕ) → from ≡ at → to ≡ at + record_length (forms_in b)
      → plan_added b (take (to - from) (drop from batch)) s ≡ plan_placed b batch at s
  unfolding plan_placed batch_added plan_added record_added
  part_place p m w from to f t =
      let d : to - from ≡ record_length (forms_in b) = omega arith in
      let n : length (take (record_length (forms_in b)) (drop at batch)) ≡ record_length (forms_in b) = simp (length-take, length-drop) (omega arith) in
      rw (d, f, ne_eqb at (length batch) m, p, eq-eqb _ _ n)

  -- where the adding goes on there was a record
  pub on_record : goes_on (plan_placed b batch at s).answer ≡ true
      → (next_at (record_length (forms_in b)) (length batch) at ≡ Record at (at + record_length (forms_in b))) × (at + record_length (forms_in b) ≤ length batch)
  unfolding goes_on
  on_record g =
      let none : (k : ℕ) → eqb k 10 ≡ false → unchanged k 0 s ≡ plan_placed b batch at s → ⊥ = λ k z e. false≢true (sym z ∙ (rw (← e) at g)) in
      ways (record_length (forms_in b)) (length batch) at
      (λ p x. absurd (⊎_elim (λ (l : s.count < most_records). none 9 refl (length_place l p)) (λ (l : most_records ≤ s.count). none 14 refl (full_place l)) (lt_or_le s.count most_records)))
      (λ p e x. absurd (⊎_elim (λ (l : s.count < most_records). none 0 refl (end_place l p e)) (λ (l : most_records ≤ s.count). none 14 refl (full_place l)) (lt_or_le s.count most_records)))
      (λ p e x. (x, at_within (record_length (forms_in b)) (length batch) at p e))

-- A whole batch: behind a record with which the adding goes on, the rest gives what the whole gives, and less
-- is left.
module _ (b : List ℕ) (h : is_plan b ≡ true) (batch : List ℕ) (at : ℕ) (s : Sheet) (a : Added) (e : a ≡ plan_placed b batch at s) where
  pub stops_here : goes_on a.answer ≡ false → Along b batch at s (record { answer = a.answer; place = at; sheet = a.sheet })
  stops_here g = stopped a (placed_is b h batch at s a e) g

  module _ (g : goes_on a.answer ≡ true) (n : ℕ) (z : n ≡ record_length (forms_in b)) where
    found : (next_at n (length batch) at ≡ Record at (at + n)) × (at + n ≤ length batch)
    found = rw z (on_record b batch at s (rw e at g))

    pub inside : at + n ≤ length batch
    inside = found.1

    pub nearer_end : length batch - (at + n) < length batch - at
    nearer_end = nearer (length batch) at (at + n) (omega (arith, z, (size_fits b h).0)) inside

    pub goes_further : (r : Batched) → Along b batch (at + n) a.sheet r → Along b batch at s r
    goes_further r w = onward (at + n) a (placed_is b h batch at s a e) g (next_is b h batch at n _ z (sym found.0)) w
