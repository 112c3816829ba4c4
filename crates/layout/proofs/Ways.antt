-- Compiling, at each way through it; and what is settled once the plan is written. Assumes nothing.
use Prim.Native.Nat.{ℕ, ◌+◌, ◌*◌, ◌<◌, ◌≤◌}
use mathlib.Core.Path.{◌≡◌, refl, sym, ◌∙◌}
use mathlib.Core.Bool.{true, false}
use mathlib.Core.List.{List, [], ◌∷◌}
use native.Mathlib.Omega.{arith}
use borrow.Author.Tests.{leb-true, lt-ltb, le-ltb}
use lib.Dec.{leb, ltb}
use lib.IntN.{pos}
use lib.ListN.{length, length-map}
use lib.Seq.{sets}
use Rattle.std.specs.Prelude.{Result, Ok, Err}
use Rattle.rules.specs.declared.Refusal.TheVariants.{Count, Room}
use Rattle.rules.specs.declared.Refused.{Refused}
use Rattle.rules.specs.Numbers.{ROOM, bad_field, when, first_of}
use Rattle.rules.specs.Refusals.{fields_answer, refusal_number}
use Rattle.rules.specs.Form.{meaning}
use Rattle.rules.specs.Layout.{closes, count_fits, forms, most_layout, most_pictures, pictures, plan_of, record_length, verdicts}
use Rattle.rules.specs.Answers.{answer, answer_over, compile_answer, compile_memory, compile_number, number_over}
use Rattle.rules.proofs.Firsts.{first_here, first_next, lent_kept, no_bad, refuses}
use Rattle.rules.proofs.Lists.{sets_front}
use Rattle.rules.proofs.Logic.{both}
use Rattle.rules.proofs.Plans.{all_good_lem, length_headers, length_positions, plan_length, record_le}
use Rattle.rules.proofs.Refusing.{refusal_some}
use Rattle.layout.specs.declared.measuring.Extent.{Extent}
use Rattle.layout.specs.Passes.{ExtentIs, FirstBad, Fits, Settled}

forms_count : (l : List ℕ) → length (forms l) ≡ length (pictures l)
unfolding forms
forms_count l = length-map (pictures l) meaning

-- a record of accepted pictures has at most 64 characters a field
record_small : (l : List ℕ) → first_of (verdicts l) ≡ 0 → record_length (forms l) ≤ 64 * length (forms l)
record_small l a = record_le (forms l) (unfold forms in all_good_lem (pictures l) a)

-- Every refusal is settled.
module _ (l : List ℕ) (room : ℕ) (extent : Extent) (s : Settled l room extent) where
  pub room_is : 3 * extent.count + 3 + extent.width ≤ room
  room_is = omega (arith, s.count_is, s.width_is, s.fits, plan_length (forms l))

  pub width_small : extent.width ≤ 2048
  width_small = omega (arith, s.few, s.count_is, s.width_is, record_small l s.accepted)

  pub forms_fit : (lent : ℕ) → lent ≡ room → Fits (pictures l) lent 1 (3 * extent.count + 1 + 2)
  unfolding forms
  forms_fit lent e = record {
    accepted = s.accepted;
    apart = omega (arith, s.count_is, length_headers (forms l));
    roles = omega (arith, room_is, s.width_is, length_positions (forms l));
  }

pub few_pictures : (l : List ℕ) → count_fits l ≡ true → length (pictures l) ≤ most_pictures
unfolding count_fits
few_pictures l f =
    let w = both (closes false l) _ f in
    leb-true _ most_pictures (both (leb (length l) most_layout) _ w.1).1

-- What is measured.
module _ (l : List ℕ) (f : count_fits l ≡ true) (extent : Extent) (e : ExtentIs (pictures l) extent) where
  length_is : 3 * extent.count + 3 + extent.width ≡ length (plan_of (forms l))
  unfolding forms
  length_is = omega (arith, plan_length (forms l), forms_count l, e.count, e.width)

  pub count_small : extent.count ≤ most_pictures
  count_small = omega (arith, few_pictures l f, e.count)

  pub plan_small : 3 * extent.count + 3 + extent.width ≤ 2147
  unfolding forms
  plan_small = omega (arith, count_small, forms_count l, e.count, e.width, record_small l e.accepted)

  pub settled : (room : ℕ) → 3 * extent.count + 3 + extent.width ≤ room → Settled l room extent
  unfolding forms
  settled room o = record {
    accepted = e.accepted;
    count_is = omega (arith, forms_count l, e.count);
    few = count_small;
    width_is = omega (arith, e.width);
    fits = omega (arith, length_is);
  }

-- The answer and the lent memory.
module _ (l plan : List ℕ) where
  -- what comes back, and the lent memory after it, are those of the rules
  abbrev pub CompileIs : Result ℕ Refused → List ℕ → Type 0
  CompileIs r after = (fields_answer r ≡ compile_answer l plan) × (after ≡ compile_memory l plan)

  pub not_counted : count_fits l ≡ false → CompileIs (Err (record { refusal = Count; field = 0 })) plan
  unfolding compile_answer compile_memory compile_number answer_over number_over first_of
  not_counted f = rw f (refl, refl)

  -- COUNT is passed
  module _ (f : count_fits l ≡ true) where
    answer_is : compile_answer l plan ≡ answer (compile_number l (length plan)) (bad_field (verdicts l)) (length (plan_of (forms l))) (pos 0)
    unfolding compile_answer answer_over compile_number
    answer_is = rw f

    number_is : compile_number l (length plan) ≡ first_of (first_of (verdicts l) ∷ when (ltb (length plan) (length (plan_of (forms l)))) ROOM ∷ [])
    unfolding compile_number number_over first_of
    number_is = rw f

    pub bad_picture : (r : Refused) → FirstBad (pictures l) r → CompileIs (Err r) plan
    unfolding compile_memory
    bad_picture r b =
        let n = refusal_some r.refusal in
        let x : compile_number l (length plan) ≡ refusal_number r.refusal = number_is ∙ rw (← b.number) (first_here (refusal_number r.refusal) _ n) in
        (rw (answer_is, x, b.field) (refuses (refusal_number r.refusal) (bad_field (verdicts l)) _ (pos 0) n), rw x (sym (lent_kept (refusal_number r.refusal) (plan_of (forms l)) plan n)))

    -- every picture is accepted
    module _ (extent : Extent) (e : ExtentIs (pictures l) extent) where
      room_number : compile_number l (length plan) ≡ first_of (when (ltb (length plan) (length (plan_of (forms l)))) ROOM ∷ [])
      room_number = number_is ∙ first_next (first_of (verdicts l)) _ e.accepted

      pub no_room : length plan < 3 * extent.count + 3 + extent.width → CompileIs (Err (record { refusal = Room; field = 0 })) plan
      unfolding compile_memory first_of
      no_room o =
          let h : length plan < length (plan_of (forms l)) = rw (← length_is l f extent e) o in
          rw (answer_is, room_number, lt-ltb (length plan) (length (plan_of (forms l))) h, no_bad (verdicts l) e.accepted) (refl, refl)

      pub done : 3 * extent.count + 3 + extent.width ≤ length plan → (after : List ℕ) → after ≡ sets plan 0 (plan_of (forms l))
          → CompileIs (Ok (3 * extent.count + 3 + extent.width)) after
      unfolding compile_memory first_of
      done o after x =
          let h : length (plan_of (forms l)) ≤ length plan = rw (← length_is l f extent e) o in
          rw (answer_is, room_number, le-ltb (length plan) (length (plan_of (forms l))) h, length_is l f extent e)
          (refl, x ∙ sets_front (plan_of (forms l)) plan h)
