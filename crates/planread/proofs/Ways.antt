-- Reading a record by a plan, at each way through it: the refusals in the order of RULES 6.6, and the row.
-- The run over the fields tells all that the answer asks of them: where it stopped the first number is
-- CONVERSION, and where it came to the end its values are the row. Assumes nothing.
use Prim.Native.Nat.{ℕ, suc, ◌+◌, ◌<◌, ◌≤◌}
use mathlib.Core.Path.{◌≡◌, refl, sym, ap, ◌∙◌}
use mathlib.Core.Bool.{true, false, true≢false}
use mathlib.Core.List.{List, [], ◌∷◌, ◌++◌, append_assoc, append-nil}
use mathlib.Core.Option.{Option, none, some}
use native.Mathlib.Numerals.{add-one}
use native.Mathlib.Nat.{add-zero, zero-add}
use native.Mathlib.Omega.{arith}
use borrow.Author.Tests.{eq-eqb, ne_eqb, lt-ltb, le-ltb}
use lib.Dec.{eqb}
use lib.IntN.{ℤ, pos}
use lib.ListN.{length, take, drop, set, length-set, length-map}
use lib.Seq.{take-suc-set}
use Rattle.std.specs.Prelude.{Ok, Err}
use Rattle.rules.specs.declared.Answer.{Answer}
use Rattle.rules.specs.declared.Refused.{Refused}
use Rattle.rules.specs.declared.Refusal.TheVariants.{Conversion}
use Rattle.rules.specs.Numbers.{bad_field, first_of}
use Rattle.rules.specs.Refusals.{refusal_number}
use Rattle.rules.specs.Form.{Form, size}
use Rattle.rules.specs.Layout.{most_pictures, record_length}
use Rattle.rules.specs.Answers.{PlanReadIs, RecordIs, answer_over, not_plan, number_over, read_before, record_answer, amounts, row_after, unsaid}
use Rattle.rules.specs.PlanBytes.{forms_in, is_plan}
use Rattle.rules.specs.Candidate.{read_all}
use Rattle.rules.proofs.Firsts.{later_some}
use Rattle.rules.proofs.Outcomes.{by_plan_lem, record_is}
use Rattle.rules.proofs.PlanWalk.{count_forms_in, field_count, plan_parts}
use Rattle.planread.specs.Runs.{Ran, plan_answer, plan_row, ran_from}

-- A run from field i on that stopped: the first number is CONVERSION, and the field is the first bad one.
pub record Stopped (i : ℕ) (refused : Refused) (os : List (Option ℤ)) : Type 0 where
  pub number : first_of (unsaid os) ≡ refusal_number refused.refusal
  pub conversion : refusal_number refused.refusal ≡ 10
  pub some : 1 ≤ bad_field (unsaid os)
  pub field : i + bad_field (unsaid os) ≡ refused.field

stopped : (i : ℕ) (vs : List ℤ) (os : List (Option ℤ)) (e : Refused) → (ran_from i vs os).outcome ≡ Err e → Stopped i e os
unfolding ran_from first_of bad_field
stopped i vs [] e h = cc
stopped i vs (none ∷ os) e h =
    let q : record { refusal = Conversion; field = i + 1 } ≡ e = cc in
    rw (← q) (record { number = refl; conversion = refl; some = omega arith; field = refl })
stopped i vs (some m ∷ os) e h =
    let s = stopped (i + 1) (set vs i m) os e h in
    let l = later_some (bad_field (unsaid os)) s.some in
    record { number = s.number; conversion = s.conversion; some = omega arith; field = rw l (omega (arith, s.field)) }

-- A run to the end: no field is bad, and the values are what the fields say.
ran_number : (i : ℕ) (vs : List ℤ) (os : List (Option ℤ)) → (ran_from i vs os).outcome ≡ Ok tt → first_of (unsaid os) ≡ 0
unfolding ran_from first_of
ran_number i vs [] h = refl
ran_number i vs (none ∷ os) h = cc
ran_number i vs (some m ∷ os) h = ran_number (i + 1) (set vs i m) os h

ran_values : (i : ℕ) (vs : List ℤ) (os : List (Option ℤ)) → i + length os ≤ length vs → (ran_from i vs os).outcome ≡ Ok tt
    → take (i + length os) (ran_from i vs os).values ≡ take i vs ++ amounts os
unfolding ran_from
ran_values i vs [] l h = rw (add-zero, append-nil)
ran_values i vs (none ∷ os) l h = cc
ran_values i vs (some m ∷ os) l h =
    let n : i + suc (length os) ≡ i + 1 + length os = omega arith in
    let k : i < length vs = omega arith in
    rw n (ran_values (i + 1) (set vs i m) os (simp length-set (omega arith)) h ∙ rw (add-one, take-suc-set vs i m k, append_assoc))

ran_all : (vs : List ℤ) (os : List (Option ℤ)) → length os ≤ length vs → (ran_from 0 vs os).outcome ≡ Ok tt → take (length os) (ran_from 0 vs os).values ≡ amounts os
ran_all vs os l h = rw zero-add at (ran_values 0 vs os (omega arith) h)

-- the row keeps its places
pub ran_length : (i : ℕ) (vs : List ℤ) (os : List (Option ℤ)) → length (ran_from i vs os).values ≡ length vs
unfolding ran_from
ran_length i vs [] = refl
ran_length i vs (none ∷ os) = refl
ran_length i vs (some m ∷ os) = ran_length (i + 1) (set vs i m) os ∙ length-set vs i m

pub length_all : (φs : List Form) (rec : List ℕ) → length (read_all φs rec) ≡ length φs
unfolding read_all
length_all [] rec = refl
length_all (φ ∷ φs) rec = ap suc (length_all φs (drop (size φ) rec))

abbrev refused : ℕ → ℕ → Answer
refused n field = record { number = n; field = field; length = 0; value = pos 0 }

-- By bytes that are a plan.
module _ (b rec : List ℕ) (row : List ℤ) where
  pub other_length : (length rec ≡ record_length (forms_in b) → ⊥) → (refused 9 0 ≡ plan_answer b rec row) × (row ≡ plan_row b rec row)
  unfolding plan_answer plan_row record_answer row_after answer_over number_over read_before first_of
  other_length n = rw (ne_eqb (length rec) (record_length (forms_in b)) n) (refl, refl)

  module _ (e : length rec ≡ record_length (forms_in b)) where
    long_enough : eqb (length rec) (record_length (forms_in b)) ≡ true
    long_enough = eq-eqb (length rec) (record_length (forms_in b)) e

    pub no_room : length row < field_count b → (refused 7 0 ≡ plan_answer b rec row) × (row ≡ plan_row b rec row)
    unfolding plan_answer plan_row record_answer row_after answer_over number_over read_before first_of
    no_room l = rw (long_enough, count_forms_in b, lt-ltb (length row) (field_count b) l) (refl, refl)

    module _ (l : field_count b ≤ length row) (vs : List ℤ) (v : length vs ≡ most_pictures) (r : Ran) (q : r ≡ ran_from 0 vs (read_all (forms_in b) rec)) where
      abbrev os : List (Option ℤ)
      os = read_all (forms_in b) rec

      pub says_nothing : (e : Refused) → r.outcome ≡ Err e → (refused (refusal_number e.refusal) e.field ≡ plan_answer b rec row) × (row ≡ plan_row b rec row)
      unfolding plan_answer plan_row record_answer row_after answer_over number_over read_before first_of
      says_nothing e n =
          let s = stopped 0 vs os e (rw q at n) in
          let f : bad_field (unsaid os) ≡ e.field = omega (arith, s.field) in
          rw (s.conversion, long_enough, count_forms_in b, le-ltb (length row) (field_count b) l, s.number, s.conversion, f) (refl, refl)

      pub reads : is_plan b ≡ true → r.outcome ≡ Ok tt → (after : List ℤ) → after ≡ take (field_count b) r.values ++ drop (field_count b) row
          → (record { number = 0; field = 0; length = field_count b; value = pos 0 } ≡ plan_answer b rec row) × (after ≡ plan_row b rec row)
      unfolding plan_answer plan_row record_answer row_after answer_over number_over read_before first_of
      reads h z after a =
          let c : length os ≡ field_count b = length_all (forms_in b) rec ∙ count_forms_in b in
          let m = rw q at z in
          let said : take (field_count b) r.values ≡ amounts os = rw (q, ← c) (ran_all vs os (omega (arith, (plan_parts b h).few)) m) in
          rw (long_enough, count_forms_in b, le-ltb (length row) (field_count b) l, ran_number 0 _ os m, length-map, c) (refl, a ∙ rw said)

-- By any bytes: they are refused, or the outcome is that of the layouts which have them as their plan.
module _ (b rec : List ℕ) (row : List ℤ) (r : Answer) (after : List ℤ) where
  pub no_plan_here : is_plan b ≡ false → r ≡ refused 12 0 → after ≡ row → PlanReadIs b rec row r after
  no_plan_here n e k = by_plan_lem b (not_plan row r after) (λ φs. RecordIs φs rec row r after) (λ _. (e, k)) (λ h. absurd (true≢false (sym h ∙ n)))

  pub by_forms : is_plan b ≡ true → r ≡ plan_answer b rec row → after ≡ plan_row b rec row → PlanReadIs b rec row r after
  unfolding plan_answer plan_row
  by_forms h e k =
      by_plan_lem b (not_plan row r after) (λ φs. RecordIs φs rec row r after) (λ n. absurd (true≢false (sym h ∙ n)))
      (λ _. rw (e, k) (record_is (forms_in b) rec row (plan_parts b h).good))
