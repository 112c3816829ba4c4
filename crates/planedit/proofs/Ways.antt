-- What is answered for a row, at each way through `edit_row`, and for any bytes. Assumes nothing.
use mathlib.Core.Path.{◌≡◌, refl, sym, ◌∙◌}
use mathlib.Core.Bool.{true, false, true≢false}
use mathlib.Core.List.{List, [], ◌∷◌, ◌++◌}
use borrow.Author.Tests.{eq-eqb, ne_eqb, lt-ltb, le-ltb}
use Prim.Native.Nat.{ℕ, ◌<◌, ◌≤◌}
use lib.Dec.{ltb}
use lib.IntN.{ℤ, pos}
use lib.ListN.{length, drop}
use Rattle.std.specs.Prelude.{Err, Ok, Result, ⊤}
use Rattle.rules.specs.declared.Answer.{Answer}
use Rattle.rules.specs.declared.Refused.{Refused}
use Rattle.rules.specs.Refusals.{refusal_number}
use Rattle.rules.specs.Numbers.{ROOM, bad_field, first_of, when}
use Rattle.rules.specs.Form.{Form}
use Rattle.rules.specs.Layout.{record_length}
use Rattle.rules.specs.PlanBytes.{forms_in, is_plan}
use Rattle.rules.specs.Answers.{PlanEditIs, RowIs, answer, answer_over, edit_verdicts, number_over, record_of, row_answer, row_number}
use Rattle.rules.proofs.Firsts.{first_here, first_next, lent_kept, no_bad, refuses}
use Rattle.rules.proofs.Outcomes.{by_plan_lem}
use Rattle.rules.proofs.PlanWalk.{count_forms_in, field_count}
use Rattle.planedit.specs.Rows.{Bad, Ready, bad, bad_in, bad_of}
use Rattle.rules.proofs.Refusing.{refusal_some}

abbrev refusal : ℕ → ℕ → Answer
refusal number field = record { number = number; field = field; length = 0; value = pos 0 }

module _ (φs : List Form) (row : List ℤ) (out : List ℕ) where
  other_length : (length row ≡ length φs → ⊥) → RowIs φs row out (refusal 9 0) out
  unfolding row_answer row_number answer_over number_over first_of
  other_length n = record { gives = rw (ne_eqb (length row) (length φs) n); leaves = rw (ne_eqb (length row) (length φs) n) }

  module _ (e : length row ≡ length φs) (b : Bad) (q : b ≡ bad_of (edit_verdicts φs row)) where
    number : b.number ≡ first_of (edit_verdicts φs row)
    unfolding bad_of
    number = rw q

    place : b.field ≡ bad_field (edit_verdicts φs row)
    unfolding bad_of
    place = rw q

    row_number_lem : row_number φs row (length out) ≡ first_of (b.number ∷ when (ltb (length out) (record_length φs)) ROOM ∷ [])
    unfolding row_number number_over first_of
    row_number_lem = rw (eq-eqb (length row) (length φs) e, number)

    row_answer_lem : row_answer φs row (length out) ≡ answer (row_number φs row (length out)) b.field (record_length φs) (pos 0)
    unfolding row_answer row_number answer_over
    row_answer_lem = rw (eq-eqb (length row) (length φs) e, place)

    bad_value : (b.number ≡ 0 → ⊥) → RowIs φs row out (refusal b.number b.field) out
    bad_value n =
        let x : row_number φs row (length out) ≡ b.number = row_number_lem ∙ first_here b.number _ n in
        record {
          gives = rw (row_answer_lem, x) (refuses b.number b.field (record_length φs) (pos 0) n);
          leaves = rw x (sym (lent_kept b.number (record_of φs row) out n));
        }

    module _ (z : b.number ≡ 0) where
      no_field : b.field ≡ 0
      no_field = place ∙ no_bad (edit_verdicts φs row) (sym number ∙ z)

      behind : row_number φs row (length out) ≡ first_of (when (ltb (length out) (record_length φs)) ROOM ∷ [])
      behind = row_number_lem ∙ first_next b.number _ z

      no_room : length out < record_length φs → RowIs φs row out (refusal 7 0) out
      unfolding first_of
      no_room l =
          let x : row_number φs row (length out) ≡ 7 = behind ∙ rw (lt-ltb (length out) (record_length φs) l) in
          record { gives = rw (row_answer_lem, x, no_field); leaves = rw x }

      done : record_length φs ≤ length out → (after : List ℕ) → after ≡ record_of φs row ++ drop (length (record_of φs row)) out
          → RowIs φs row out (record { number = 0; field = 0; length = record_length φs; value = pos 0 }) after
      unfolding first_of
      done l after a =
          let x : row_number φs row (length out) ≡ 0 = behind ∙ rw (le-ltb (length out) (record_length φs) l) in
          record { gives = rw (row_answer_lem, x); leaves = rw x a }

-- By the bytes of a plan.
module _ (b : List ℕ) (row : List ℤ) (out : List ℕ) where
  pub row_other : (length row ≡ field_count b → ⊥) → RowIs (forms_in b) row out (refusal 9 0) out
  row_other n = other_length (forms_in b) row out (λ q. n (q ∙ count_forms_in b))

  module _ (e : length row ≡ field_count b) where
    each : length row ≡ length (forms_in b)
    each = e ∙ sym (count_forms_in b)

    pub row_bad : (r : Result ⊤ Refused) (x : Refused) → bad_in r ≡ bad_of (edit_verdicts (forms_in b) row) → r ≡ Err x
        → RowIs (forms_in b) row out (refusal (refusal_number x.refusal) x.field) out
    row_bad r x q h =
        bad_value (forms_in b) row out each (bad (refusal_number x.refusal) x.field) (rw h at q) (refusal_some x.refusal)

    -- every value is taken
    module _ (r : Result ⊤ Refused) (q : bad_in r ≡ bad_of (edit_verdicts (forms_in b) row)) (h : r ≡ Ok tt) where
      none : bad 0 0 ≡ bad_of (edit_verdicts (forms_in b) row)
      none = rw h at q

      pub row_room : length out < record_length (forms_in b) → RowIs (forms_in b) row out (refusal 7 0) out
      row_room l = no_room (forms_in b) row out each (bad 0 0) none refl l

      module _ (l : record_length (forms_in b) ≤ length out) where
        pub row_ready : Ready b row out
        row_ready = record { each = e; takes = sym (number (forms_in b) row out each (bad 0 0) none); room = l }

        pub row_done : (after : List ℕ) → after ≡ record_of (forms_in b) row ++ drop (length (record_of (forms_in b) row)) out
            → RowIs (forms_in b) row out (record { number = 0; field = 0; length = record_length (forms_in b); value = pos 0 }) after
        row_done after a = done (forms_in b) row out each (bad 0 0) none refl l after a

-- By any bytes.
module _ (b : List ℕ) (row : List ℤ) (out : List ℕ) (r : Answer) (after : List ℕ) where
  pub no_plan_edit : is_plan b ≡ false → r ≡ refusal 12 0 → after ≡ out → PlanEditIs b row out r after
  no_plan_edit n e k = by_plan_lem b _ (λ φs. RowIs φs row out r after) (λ _. (e, k)) (λ h. absurd (true≢false (sym h ∙ n)))

  pub plan_edit : is_plan b ≡ true → RowIs (forms_in b) row out r after → PlanEditIs b row out r after
  plan_edit h w = by_plan_lem b _ (λ φs. RowIs φs row out r after) (λ n. absurd (true≢false (sym h ∙ n))) (λ _. w)
