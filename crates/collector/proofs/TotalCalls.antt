-- Adding a record to a sheet in a run, at each way through the call. Only a record that was added has a
-- length, for a plan has a field at least: so the length alone tells whether there is a sheet to write.
-- Assumes nothing.
use Prim.Native.Nat.{ℕ, zero, suc, ◌<◌, ◌≤◌}
use mathlib.Core.Path.{◌≡◌, refl, sym, ap, ◌∙◌}
use mathlib.Core.Bool.{true, false, cond, true≢false}
use mathlib.Core.List.{List, [], ◌++◌}
use native.Mathlib.Omega.{arith}
use borrow.Author.Tests.{lt-ltb, le-ltb, leb-false, eq-eqb, eqb-true, eqb-false, ne_eqb}
use lib.Dec.{leb, eqb}
use lib.IntN.{ℤ, pos}
use lib.ListN.{length, drop}
use Rattle.std.specs.Prelude.{Result, Ok, Err, unwrap_or}
use Rattle.std.specs.Result.{result_err}
use Rattle.rules.specs.declared.Answer.{Answer}
use Rattle.rules.specs.declared.Refusal.{Refusal}
use Rattle.rules.specs.declared.Refusal.TheVariants.{Room}
use Rattle.rules.specs.Numbers.{PLAN}
use Rattle.rules.specs.Refusals.{refusal_number, result_number, fields_answer}
use Rattle.rules.specs.Form.{Form}
use Rattle.rules.specs.Layout.{forms, most_pictures}
use Rattle.rules.specs.Answers.{answer, answer_over, as_layout, lent_after, as_no_plan, number_over}
use Rattle.rules.specs.Collector.{packed}
use Rattle.rules.specs.PlanBytes.{forms_in, is_plan}
use Rattle.rules.specs.Candidate.{read_all}
use Rattle.rules.proofs.Logic.{by_test}
use Rattle.rules.proofs.Firsts.{first_zero, lent_kept}
use Rattle.rules.proofs.Outcomes.{all_read, by_plan_lem}
use Rattle.rules.proofs.PlanWalk.{plan_parts}
use Rattle.rules.proofs.Plans.{forms_count}
use Rattle.totals.specs.declared.Sheet.{Sheet}
use Rattle.totals.specs.Batch.{record_at}
use Rattle.totals.specs.Totals.{AddIs, Added, BatchAddedIs, add_before, added_by, field_numbers, most_records, batch_added, with_row}
use Rattle.totals.proofs.Past.{before, is_added, judged, number_is, sheet_is}
use Rattle.rules.proofs.Refusing.{refusal_some}
use Rattle.collector.specs.PlanRuns.{not_plan_run}
use Rattle.collector.specs.TotalRuns.{PlaceRunIs, TotalsAddRunIs, sheet_bytes, sheet_in, sheet_size, written_at}
use Rattle.collector.proofs.Columns.{sheet_length}
use Rattle.collector.proofs.PlanCalls.{over_small, when_zero}

-- an answer has its length, or none
length_zero : (n field l : ℕ) (m : ℤ) → n ≡ 0 → (answer n field l m).length ≡ l
length_zero n field l m e = rw e

length_none : (n field : ℕ) (m : ℤ) → (answer n field 0 m).length ≡ 0
length_none zero field m = refl
length_none (suc n) field m = refl

length_some : (n field l : ℕ) (m : ℤ) → ((answer n field l m).length ≡ 0 → ⊥) → n ≡ 0
length_some zero field l m h = refl
length_some (suc n) field l m h = absurd (h refl)

-- nothing is written, whatever the number
lent_none : (n : ℕ) (run : List ℕ) → lent_after n [] run ≡ run
lent_none zero run = refl
lent_none (suc n) run = refl

-- By pictures.
module _ (φs : List Form) (some : 1 ≤ length φs) (few : length φs ≤ most_pictures) (batch : List ℕ) (at : ℕ) (s : Sheet) (r : Added) (a : BatchAddedIs φs batch at s r) where
  abbrev given : ℕ
  given = judged φs batch at s r a

  end_length : at ≡ length batch → r.answer.length ≡ 0
  unfolding batch_added
  end_length e = ap (λ (x : Added). x.answer.length) a.gives ∙ rw (eq-eqb at (length batch) e) (length_none (before φs batch at s r a) 0 (pos 0))

  no_end : (r.answer.length ≡ 0 → ⊥) → at ≡ length batch → ⊥
  no_end h e = h (end_length e)

  module _ (n : at ≡ length batch → ⊥) where
    answer_is : r.answer ≡ answer_over (before φs batch at s r a) (field_numbers s a.says) 0 (length φs)
    unfolding added_by
    answer_is = ap (λ (x : Added). x.answer) (is_added φs batch at s r a n)

    length_is : given ≡ 0 → r.answer.length ≡ length φs
    unfolding answer_over
    length_is z = ap (λ (x : Answer). x.length) answer_is ∙ length_zero given _ (length φs) (pos 0) z

    was_added : (r.answer.length ≡ 0 → ⊥) → given ≡ 0
    unfolding answer_over
    was_added h = length_some given _ (length φs) (pos 0) (λ z. h (ap (λ (x : Answer). x.length) answer_is ∙ z))

    few_places : r.answer.length ≤ 65536
    few_places =
        let k : length φs ≤ 65536 = omega (arith, few) in
        rw answer_is (over_small (before φs batch at s r a) (field_numbers s a.says) 0 (length φs) k)

  places_le : r.answer.length ≤ 65536
  places_le = by_test (eqb at (length batch)) (λ e. omega (arith, end_length (eqb-true at (length batch) e))) (λ e. few_places (eqb-false at (length batch) e))

  -- FULL is passed
  grown_count : (r.answer.length ≡ 0 → ⊥) → r.sheet.count ≤ most_records
  unfolding add_before number_over with_row
  grown_count h =
      let n = no_end h in
      let z = was_added n h in
      let f = leb-false most_records s.count (when_zero (leb most_records s.count) 13 (first_zero _ _ (first_zero (before φs batch at s r a) _ z).0).0) in
      rw (sheet_is φs batch at s r a n, z) (omega (arith, f))

  -- what is left in the run
  left_stays : (run : List ℕ) → r.answer.length ≡ 0 → run ≡ lent_after r.answer.number (written_at batch at r.sheet) run
  left_stays run h = by_test (eqb at (length batch))
      (λ e. rw e (sym (lent_none r.answer.number run)))
      (λ e.
      let n = eqb-false at (length batch) e in
      sym (lent_kept r.answer.number (written_at batch at r.sheet) run (λ z. let w = length_is n (sym (number_is φs batch at s r a n) ∙ z) in absurd (omega arith))))

  left_grows : (run : List ℕ) → (r.answer.length ≡ 0 → ⊥) → length (sheet_bytes r.sheet) ≡ sheet_size
      → sheet_bytes r.sheet ++ drop sheet_size run ≡ lent_after r.answer.number (written_at batch at r.sheet) run
  left_grows run h l =
      let n = no_end h in
      rw (number_is φs batch at s r a n, was_added n h, ne_eqb at (length batch) n, l)

-- By a plan.
module _ (b batch : List ℕ) (at : ℕ) (run : List ℕ) where
  pub no_room : is_plan b ≡ true → length run < sheet_size → TotalsAddRunIs b batch at run 7 run
  unfolding packed
  no_room h l =
      by_plan_lem b (not_plan_run run 7 run) (λ φs. PlaceRunIs φs batch at run 7 run) (λ n. absurd (true≢false (sym h ∙ n)))
      (λ _.
      record {
        added = _;
        adds = record { says = read_all (forms_in b) (record_at (forms_in b) batch at); reads = all_read _ _ (plan_parts b h).good; gives = refl };
        gives = rw (lt-ltb (length run) sheet_size l);
        leaves = rw (lt-ltb (length run) sheet_size l);
      })

  pub not_plan_lem : is_plan b ≡ false → TotalsAddRunIs b batch at run 12 run
  unfolding packed
  not_plan_lem n = by_plan_lem b (not_plan_run run 12 run) (λ φs. PlaceRunIs φs batch at run 12 run) (λ _. (refl, refl)) (λ h. absurd (true≢false (sym h ∙ n)))

  -- where the run is short, the plan is asked first
  pub short_run : {A : Type 0} → length run < sheet_size → (o : Result A Refusal) → result_number o ≡ cond (is_plan b) 0 PLAN → (x : Refusal) → x ≡ unwrap_or (result_err o) Room → (n : ℕ)
      → n ≡ packed (fields_answer (Err (record { refusal = x; field = 0 }))) → TotalsAddRunIs b batch at run n run
  unfolding packed
  short_run l (Ok p) e x q n g =
      by_test (is_plan b)
      (λ t. rw (g, q) (no_room t l))
      (λ f. let z : ◌≡◌ {A = ℕ} 0 PLAN = rw f at e in absurd (omega arith))
  short_run l (Err y) e x q n g =
      by_test (is_plan b)
      (λ t. absurd (refusal_some y (rw t at e)))
      (λ f. let z : refusal_number y ≡ PLAN = rw f at e in rw (g, q, z) (not_plan_lem f))

  module _ (r : Added) where
    pub length_few : AddIs b batch at (sheet_in run) r → r.answer.length ≤ 65536
    length_few (as_no_plan n p) = rw p (omega arith)
    length_few (as_layout l p a) = let c = forms_count l p.layout in places_le (forms l) c.0 c.1 batch at (sheet_in run) r a

    pub count_few : AddIs b batch at (sheet_in run) r → (r.answer.length ≡ 0 → ⊥) → r.sheet.count ≤ most_records
    count_few (as_no_plan n p) h = absurd (h (ap (λ (x : Added). x.answer.length) p))
    count_few (as_layout l p a) h = let c = forms_count l p.layout in grown_count (forms l) c.0 c.1 batch at (sheet_in run) r a h

    module _ (room : sheet_size ≤ length run) (n : ℕ) (e : n ≡ packed r.answer) where
      pub run_stays : AddIs b batch at (sheet_in run) r → r.answer.length ≡ 0 → TotalsAddRunIs b batch at run n run
      run_stays (as_no_plan m p) h = as_no_plan m (e ∙ ap (λ (x : Added). packed x.answer) p, refl)
      run_stays (as_layout l p a) h =
          let c = forms_count l p.layout in
          as_layout l p (record {
            added = r;
            adds = a;
            gives = e ∙ rw (le-ltb (length run) sheet_size room);
            leaves = rw (le-ltb (length run) sheet_size room) (left_stays (forms l) c.0 c.1 batch at (sheet_in run) r a run h);
          })

      pub run_grows : AddIs b batch at (sheet_in run) r → (r.answer.length ≡ 0 → ⊥) → length r.sheet.sums ≡ most_pictures → length r.sheet.least ≡ most_pictures
          → length r.sheet.greatest ≡ most_pictures → (after : List ℕ) → after ≡ sheet_bytes r.sheet ++ drop sheet_size run → TotalsAddRunIs b batch at run n after
      run_grows (as_no_plan m p) h x y z after q = absurd (h (ap (λ (x : Added). x.answer.length) p))
      run_grows (as_layout l p a) h x y z after q =
          let c = forms_count l p.layout in
          as_layout l p (record {
            added = r;
            adds = a;
            gives = e ∙ rw (le-ltb (length run) sheet_size room);
            leaves = q ∙ rw (le-ltb (length run) sheet_size room) (left_grows (forms l) c.0 c.1 batch at (sheet_in run) r a run h (sheet_length r.sheet x y z));
          })
