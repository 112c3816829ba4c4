-- The calls on plans with rows as runs: a row of 32 numbers holds what any run would, since no layout has
-- more fields. Assumes nothing.
use Prim.Native.Nat.{ℕ, zero, suc, ◌*◌, ◌/◌, ◌%◌, ◌≤◌, min}
use mathlib.Core.Path.{◌≡◌, refl, sym, ap, ◌∙◌}
use mathlib.Core.Bool.{Bool, true, false, cond}
use mathlib.Core.List.{List, [], ◌∷◌, ◌++◌}
use mathlib.Core.Option.{Option}
use native.Mathlib.Omega.{arith}
use borrow.Author.Tests.{ltb-true, ltb-false, lt-ltb, le-ltb, le-leb, eq-eqb, ne_eqb, eqb-true, eqb-false}
use lib.Dec.{ltb, eqb}
use lib.IntN.{ℤ, pos}
use lib.ListN.{length, take, drop, length-map}
use lib.Seq.{take-append_seam}
use Rattle.std.specs.Prelude.{Result, Ok, Err}
use Rattle.rules.specs.declared.Answer.{Answer}
use Rattle.rules.specs.declared.Refused.{Refused}
use Rattle.rules.specs.Refusals.{fields_answer}
use Rattle.rules.specs.Numbers.{ROOM, LENGTH, COUNT, when, unless, first_of, bad_field}
use Rattle.rules.specs.Form.{Form}
use Rattle.rules.specs.Layout.{count_fits, verdicts, accepted, forms, record_length, plan_of, HasPlan}
use Rattle.rules.specs.Answers.{answer, compile_answer, lent_after, said, unsaid, amounts, number_over, answer_over, read_before, record_answer, row_after, RecordIs, as_no_plan, as_layout, PlanReadIs, edit_verdicts, record_of, row_number, row_answer, RowIs, PlanEditIs}
use Rattle.rules.specs.Collector.{packed, row_bytes, row_in}
use Rattle.rules.proofs.Logic.{by_test}
use Rattle.rules.proofs.Firsts.{lent_kept, first_zero}
use Rattle.rules.proofs.Outcomes.{reads_count}
use Rattle.rules.proofs.Plans.{forms_count, forms_good, record_le, plan_length}
use Rattle.rules.proofs.Refusing.{refusal_some}
use Rattle.wire.specs.Run.{put_row, get_row}
use Rattle.wire.proofs.Rows.{row_length_lem, row_in_length}
use Rattle.collector.specs.PlanRuns.{places_in, RecordRunIs, PlanReadRunIs, row_count, RowRunIs, PlanEditRunIs}

answer_number : (n f l : ℕ) (v : ℤ) → (answer n f l v).number ≡ n
answer_number zero f l v = refl
answer_number (suc n) f l v = refl

-- Reading.

short : (n c : ℕ) → c ≤ 32 → ltb (min n 32) c ≡ ltb n c
short n c h = by_test (ltb n c)
    (λ e. let l = ltb-true n c e in lt-ltb (min n 32) c (omega arith) ∙ sym e)
    (λ e. let l = ltb-false n c e in le-ltb (min n 32) c (omega arith) ∙ sym e)

pub when_zero : (b : Bool) (n : ℕ) → when b (suc n) ≡ 0 → b ≡ false
when_zero true n h = absurd (omega arith)
when_zero false n h = refl

module _ (φs : List Form) (rec run : List ℕ) (few : length φs ≤ 32) (row : List ℤ) (size : length row ≡ min (places_in run) 32) (a : Answer) (after : List ℤ) (h : RecordIs φs rec row a after) where
  abbrev os : List (Option ℤ)
  os = h.says

  -- a row of 32 is short exactly where the run is
  capped : read_before φs rec (length row) ≡ read_before φs rec (places_in run)
  unfolding read_before
  capped = rw (size, short (places_in run) (length φs) few)

  abbrev number : ℕ
  number = number_over (read_before φs rec (places_in run)) (unsaid os) 0

  answer_is : a ≡ record_answer φs rec (places_in run) os
  unfolding record_answer
  answer_is = h.gives ∙ rw capped

  number_is : a.number ≡ number
  unfolding record_answer answer_over
  number_is = ap (λ (x : Answer). x.number) answer_is ∙ answer_number number _ (length φs) (pos 0)

  pub run_refused : (a.number ≡ 0 → ⊥) → RecordRunIs φs rec run (packed a) run
  run_refused z = record { says = os; reads = h.reads; gives = ap packed answer_is; leaves = sym (lent_kept number (row_bytes (amounts os)) run (λ q. z (number_is ∙ q))) }

  module _ (z : a.number ≡ 0) where
    zero_number : number ≡ 0
    zero_number = sym number_is ∙ z

    row_is : after ≡ amounts os ++ drop (length (amounts os)) row
    unfolding row_after
    row_is =
        let n : number_over (read_before φs rec (length row)) (unsaid os) 0 ≡ 0 = rw capped zero_number in
        h.leaves ∙ rw n

    values_count : length (amounts os) ≡ length φs
    values_count = length-map os said ∙ reads_count φs rec os h.reads

    pub length_is : a.length ≡ length φs
    unfolding record_answer answer_over
    length_is = rw (answer_is, zero_number)

    -- there is room for every field
    pub room_is : length φs ≤ places_in run
    unfolding number_over read_before
    room_is = ltb-false (places_in run) (length φs) (when_zero _ 6 (first_zero _ _ (first_zero _ _ (first_zero _ _ zero_number).0).1).0)

    -- the values read are the row's first
    pub values_are : take (length φs) after ≡ amounts os
    values_are = ap (λ (x : List ℤ). take (length φs) x) row_is ∙ ap (λ (n : ℕ). take n (amounts os ++ drop (length (amounts os)) row)) (sym values_count) ∙ take-append_seam (amounts os) _

    pub run_done : (left : List ℕ) → left ≡ put_row run (amounts os) → RecordRunIs φs rec run (packed a) left
    unfolding put_row
    run_done left e =
        let l : 8 * length (amounts os) ≤ length run = omega (arith, values_count, room_is) in
        record {
          says = os;
          reads = h.reads;
          gives = ap packed answer_is;
          leaves = e ∙ rw (zero_number, le-leb (8 * length (amounts os)) (length run) l, row_length_lem (amounts os));
        }

-- By a plan.
module _ (b rec run : List ℕ) (row : List ℤ) (size : length row ≡ min (places_in run) 32) (a : Answer) (after : List ℤ) where
  few : (l : List ℕ) → HasPlan l b → length (forms l) ≤ 32
  few l p = (forms_count l p.layout).1

  pub plan_refused : PlanReadIs b rec row a after → (a.number ≡ 0 → ⊥) → (r : ℕ) → r ≡ packed a → PlanReadRunIs b rec run r run
  plan_refused (as_no_plan n p) z r e = as_no_plan n (e ∙ ap packed p.0, refl)
  plan_refused (as_layout l p h) z r e = as_layout l p (rw e (run_refused (forms l) rec run (few l p) row size a after h z))

  pub plan_done : PlanReadIs b rec row a after → a.number ≡ 0 → (r : ℕ) → r ≡ packed a → (left : List ℕ) (c : ℕ) → c ≡ a.length → left ≡ put_row run (take c after) → PlanReadRunIs b rec run r left
  plan_done (as_no_plan n p) z r e left c s q = let x : ◌≡◌ {A = ℕ} 12 0 = sym (ap (λ (y : Answer). y.number) p.0) ∙ z in absurd (omega arith)
  plan_done (as_layout l p h) z r e left c s q =
      as_layout l p (rw e (run_done (forms l) rec run (few l p) row size a after h z left
      (q ∙ ap (λ (n : ℕ). put_row run (take n after)) (s ∙ length_is (forms l) rec run (few l p) row size a after h z) ∙ ap (put_row run) (values_are (forms l) rec run (few l p) row size a after h z))))

  -- the fields read fit the row of 32
  pub done_length : PlanReadIs b rec row a after → a.number ≡ 0 → a.length ≤ length row
  done_length (as_no_plan n p) z = let x : ◌≡◌ {A = ℕ} 12 0 = sym (ap (λ (y : Answer). y.number) p.0) ∙ z in absurd (omega arith)
  done_length (as_layout l p h) z =
      omega (arith, few l p, length_is (forms l) rec run (few l p) row size a after h z, room_is (forms l) rec run (few l p) row size a after h z)

-- By what the reading came to: the values of a success go into the run, and a refusal leaves it.
abbrev pub left_by : Result ℕ Refused → List ℤ → List ℕ → List ℕ
left_by (Ok c) row run = put_row run (take c row)
left_by (Err e) row run = run

module _ (b rec run : List ℕ) (row : List ℤ) (size : length row ≡ min (places_in run) 32) (after : List ℤ) where
  pub plan_run : (o : Result ℕ Refused) → PlanReadIs b rec row (fields_answer o) after → (r : ℕ) → r ≡ packed (fields_answer o) → (left : List ℕ) → left ≡ left_by o after run → PlanReadRunIs b rec run r left
  plan_run (Ok c) h r e left q = plan_done b rec run row size (fields_answer (Ok c)) after h refl r e left c refl q
  plan_run (Err x) h r e left q = rw q (plan_refused b rec run row size (fields_answer (Err x)) after h (refusal_some x.refusal) r e)

  pub plan_fits : (c : ℕ) → PlanReadIs b rec row (fields_answer (Ok c)) after → c ≤ length row
  plan_fits c h = done_length b rec run row size (fields_answer (Ok c)) after h refl

-- Editing.

row_count_is : (n c : ℕ) → c ≤ 32 → n ≡ 8 * c → row_count n ≡ c
unfolding row_count
row_count_is n c l e =
    let d : n / 8 ≡ c = omega arith in
    let m : n % 8 ≡ 0 = omega arith in
    rw (eq-eqb (n % 8) 0 m, d, le-ltb 32 c l)

row_count_not : (n c : ℕ) → 1 ≤ c → (n ≡ 8 * c → ⊥) → row_count n ≡ c → ⊥
unfolding row_count
row_count_not n c l h = by_test (eqb (n % 8) 0)
    (λ e. let m = eqb-true (n % 8) 0 e in by_test (ltb 32 (n / 8)) (λ x. rw (e, x) (λ q. omega arith)) (λ x. rw (e, x) (λ q. h (omega arith))))
    (λ e. rw e (λ q. omega arith))

row_count_whole : (n : ℕ) → 8 * row_count n ≤ n
unfolding row_count
row_count_whole n = by_test (eqb (n % 8) 0)
    (λ e. by_test (ltb 32 (n / 8)) (λ x. rw (e, x) (omega arith)) (λ x. rw (e, x) (omega arith)))
    (λ e. rw e (omega arith))

-- what is got from the run into a row of its count
pub row_got : (run : List ℕ) (row : List ℤ) → length row ≡ row_count (length run) → get_row run row ≡ row_in (row_count (length run)) run
unfolding get_row
row_got run row e = rw (e, le-leb (8 * row_count (length run)) (length run) (row_count_whole (length run)))

-- a row of another length
other_answer : (φs : List Form) (row : List ℤ) (room : ℕ) → eqb (length row) (length φs) ≡ false → row_answer φs row room ≡ answer LENGTH 0 0 (pos 0)
unfolding row_answer answer_over number_over first_of
other_answer φs row room n = rw n

other_memory : (φs : List Form) (row : List ℤ) (out : List ℕ) → eqb (length row) (length φs) ≡ false → lent_after (row_number φs row (length out)) (record_of φs row) out ≡ out
unfolding row_number number_over first_of
other_memory φs row out n = rw n

module _ (φs : List Form) (run : List ℕ) (some : 1 ≤ length φs) (few : length φs ≤ 32) (row : List ℤ) (e : row ≡ row_in (row_count (length run)) run) (out : List ℕ) (a : Answer) (after : List ℕ) (h : RowIs φs row out a after) where
  pub row_run : RowRunIs φs run out (packed a) after
  row_run = by_test (eqb (length run) (8 * length φs))
      (λ x.
      let c = row_count_is (length run) (length φs) few (eqb-true _ _ x) in
      let r : row ≡ row_in (length φs) run = e ∙ ap (λ (n : ℕ). row_in n run) c in
      record { gives = ap packed (h.gives ∙ ap (λ (y : List ℤ). row_answer φs y (length out)) r) ∙ rw x; leaves = h.leaves ∙ ap (λ (y : List ℤ). lent_after (row_number φs y (length out)) (record_of φs y) out) r ∙ rw x })
      (λ x.
      let n : eqb (length row) (length φs) ≡ false = ne_eqb _ _ (λ y. row_count_not (length run) (length φs) some (eqb-false _ _ x) (sym (ap length e ∙ row_in_length (row_count (length run)) run) ∙ y)) in
      record { gives = ap packed (h.gives ∙ other_answer φs row (length out) n) ∙ rw x; leaves = h.leaves ∙ other_memory φs row out n ∙ rw x })

pub plan_edited : (b run : List ℕ) (row : List ℤ) → row ≡ row_in (row_count (length run)) run → (out : List ℕ) (a : Answer) (after : List ℕ) → PlanEditIs b row out a after
    → (r : ℕ) → r ≡ packed a → PlanEditRunIs b run out r after
plan_edited b run row e out a after (as_no_plan n p) r q = as_no_plan n (q ∙ ap packed p.0, p.1)
plan_edited b run row e out a after (as_layout l p h) r q =
    let c = forms_count l p.layout in
    as_layout l p (rw q (row_run (forms l) run c.0 c.1 row e out a after h))

-- Lengths: what is packed stays small.

small : (n f l : ℕ) (v : ℤ) → l ≤ 65536 → (answer n f l v).length ≤ 65536
small zero f l v h = h
small (suc n) f l v h = omega arith

pub over_small : (before : ℕ) (fields : List ℕ) (behind l : ℕ) → l ≤ 65536 → (answer_over before fields behind l).length ≤ 65536
unfolding answer_over
over_small before fields behind l h = small (number_over before fields behind) (cond (eqb before 0) (bad_field fields) 0) l (pos 0) h

pub read_small : (b rec : List ℕ) (row : List ℤ) (a : Answer) (after : List ℤ) → PlanReadIs b rec row a after → a.length ≤ 65536
unfolding record_answer
read_small b rec row a after (as_no_plan n p) = rw p.0 (omega arith)
read_small b rec row a after (as_layout l p h) =
    let c = forms_count l p.layout in
    let k : length (forms l) ≤ 65536 = omega arith in
    rw h.gives (over_small (read_before (forms l) rec (length row)) (unsaid h.says) 0 (length (forms l)) k)

pub edit_small : (b : List ℕ) (row : List ℤ) (out : List ℕ) (a : Answer) (after : List ℕ) → PlanEditIs b row out a after → a.length ≤ 65536
unfolding row_answer
edit_small b row out a after (as_no_plan n p) = rw p.0 (omega arith)
edit_small b row out a after (as_layout l p h) =
    let c = forms_count l p.layout in
    let k : record_length (forms l) ≤ 65536 = omega (arith, record_le (forms l) (forms_good l p.layout)) in
    rw h.gives (over_small _ (edit_verdicts (forms l) row) _ (record_length (forms l)) k)

-- a layout that is refused by nothing of its own is accepted
accepted_of : (l : List ℕ) → unless (count_fits l) COUNT ≡ 0 → first_of (verdicts l) ≡ 0 → accepted l ≡ true
unfolding accepted first_of
accepted_of l a b = rw (a, b)

settled : (n f l : ℕ) (v : ℤ) → (n ≡ 0 → l ≤ 65536) → (answer n f l v).length ≤ 65536
settled zero f l v h = h refl
settled (suc n) f l v h = omega arith

pub compile_small : (l plan : List ℕ) (a : Answer) → a ≡ compile_answer l plan → a.length ≤ 65536
unfolding compile_answer answer_over number_over
compile_small l plan a e =
    let room = when (ltb (length plan) (length (plan_of (forms l)))) ROOM in
    rw e (settled (first_of (unless (count_fits l) COUNT ∷ first_of (verdicts l) ∷ room ∷ [])) (cond (eqb (unless (count_fits l) COUNT) 0) (bad_field (verdicts l)) 0) (length (plan_of (forms l))) (pos 0)
    (λ z.
    let x = first_zero _ _ z in
    let y = first_zero _ _ x.1 in
    let p = accepted_of l x.0 y.0 in
    let c = forms_count l p in
    omega (arith, plan_length (forms l), record_le (forms l) (forms_good l p))))
