-- RULES 4.5 of a form: the field of a value says the aligned magnitude with its sign, and that is near the value, since a quotient times its divisor is near the dividend; in either
-- mode alike. Then what the cut gives besides, and what the modes have in common: signs make no difference, and where the picture has places enough neither does the mode. Assumes nothing.
use mathlib.Core.Path.{◌≡◌, refl, sym, ap, ◌∙◌}
use mathlib.Core.Bool.{Bool, true, false, not, ◌&&◌, ◌||◌, and-false}
use mathlib.Core.List.{List, [], ◌∷◌}
use mathlib.Core.Logic.{◌⊎◌, inl, inr}
use mathlib.Core.Option.{some}
use Prim.Native.Nat.{ℕ, zero, suc, ◌+◌, ◌-◌, ◌*◌, ◌/◌, ◌^◌, ◌≤◌}
use native.Mathlib.Nat.{zero-mul, mul_right_comm, mul-le-mul_right, mul-lt-mul_of_pos_right, le_refl, le-div_iff_mul-le, div-lt_iff_lt-mul}
use lib.Pow.{pow-add}
use native.Mathlib.Omega.{arith}
use borrow.Author.Tests.{leb-true, leb-false, le-leb, lt-leb, eqb-false, not-true, not-false}
use lib.IntN.{ℤ, pos, negsuc, neg_ℤ, nat_abs, ◌-ℤ◌, neg_ℤ-+ℤ, neg_ℤ-neg_ℤ}
use lib.Dec.{leb, eqb}
use Rattle.rules.specs.declared.Rounding.{Rounding}
use Rattle.rules.specs.declared.Rounding.TheVariants.{Cut}
use Rattle.rules.specs.Form.{Form, meaning}
use Rattle.rules.specs.Shape.{digit_count, digits_fit, places, whole}
use Rattle.rules.specs.Edit.{aligned, edited, has_sign, in_range, is_minus, is_negative, quotient, signed, too_big}
use Rattle.rules.specs.Read.{Edits, ReadsAs}
use Rattle.rules.specs.Near.{Near, aligned_value, apart}
use Rattle.rules.specs.Candidate.{Fits}
use Rattle.rules.specs.Answers.{edit_answer, edit_memory, edit_number, record_in, verdicts_in}
use Rattle.rules.proofs.Digits.{ten_pos}
use Rattle.rules.proofs.Exact.{digit_sum, signed_edits}
use Rattle.rules.proofs.Logic.{both, by_test, neither}
use Rattle.rules.proofs.Magnitudes.{difference, neg_abs, signed_abs, signed_times, zero_plus}
use Rattle.rules.proofs.Quotient.{cut_off, quotient_cut, quotient_exact, quotient_half, quotient_near, quotient_up}

-- of two numbers with one sign, the magnitudes tell how far they are apart
apart_is : (t f : ℕ) (m : ℤ) (q : ℕ) → apart (signed (is_negative m) t) f m q ≡ (t * 10 ^ q - nat_abs m * 10 ^ f) + (nat_abs m * 10 ^ f - t * 10 ^ q)
unfolding apart
apart_is t f (pos n) q = difference (t * 10 ^ q) (n * 10 ^ f)
apart_is t f (negsuc n) q =
    let x = pos (t * 10 ^ q) in
    let y = pos (suc n * 10 ^ f) in
    ap (λ (z : ℤ). nat_abs (z -ℤ neg_ℤ y)) (signed_times t (10 ^ q)) ∙ ap nat_abs (sym (neg_ℤ-+ℤ x (neg_ℤ y))) ∙ neg_abs (x -ℤ y) ∙ difference (t * 10 ^ q) (suc n * 10 ^ f)

-- The value that a field says.
module _ (w : Rounding) (φ : Form) (m : ℤ) (q : ℕ) where
  value_is : aligned_value w φ m q ≡ signed (is_negative m) (aligned w φ m q)
  unfolding aligned_value is_minus
  value_is = by_test (is_negative m) (λ e. rw e (zero_plus (aligned w φ m q))) (λ e. rw e)

  pub near : Near w (aligned_value w φ m q) (places φ) m q
  unfolding aligned
  near =
      let x = nat_abs m * 10 ^ places φ in
      let a : apart (aligned_value w φ m q) (places φ) m q ≡ (quotient w x (10 ^ q) * 10 ^ q - x) + (x - quotient w x (10 ^ q) * 10 ^ q) =
      rw value_is (apart_is (aligned w φ m q) (places φ) m q) in
      record { less = rw a (omega (arith, quotient_near w x (10 ^ q) (ten_pos q))); half = λ e. rw (a, e) (omega (arith, quotient_half x (10 ^ q) (ten_pos q))) }

  module _ (f : List ℕ) (e : Edits w φ m q f) where
    value_fits : Fits φ (is_minus w φ m q) (aligned w φ m q)
    unfolding too_big is_minus
    value_fits =
        let s = neither (leb (10 ^ digit_count φ) (aligned w φ m q)) _ e.size in
        record {
          small = leb-false _ _ s.0;
          sign = λ n.
              let z = eqb-false (aligned w φ m q) 0 (not-true _ (both (is_negative m) _ n).1) in
              (omega arith, not-false _ (rw n at s.1));
        }

    pub field_says : digits_fit φ ≡ true → ReadsAs φ f (some (aligned_value w φ m q))
    unfolding aligned_value edited
    field_says d = signed_edits φ f d (is_minus w φ m q) (aligned w φ m q) value_fits e.field

-- by the cut no further from zero than the value
pub cut_never_enlarges : (φ : Form) (m : ℤ) (q : ℕ) → nat_abs (aligned_value Cut φ m q) * 10 ^ q ≤ nat_abs m * 10 ^ places φ
unfolding aligned
cut_never_enlarges φ m q = rw (value_is Cut φ m q, signed_abs) (quotient_cut (nat_abs m * 10 ^ places φ) (10 ^ q))

-- and SIZE may be judged of the value without its fraction: i digits don't hold it
cut_test : (x q i f : ℕ) → leb (10 ^ (i + f)) (x * 10 ^ f / 10 ^ q) ≡ leb (10 ^ i) (x / 10 ^ q)
cut_test x q i f =
    let e : 10 ^ (i + f) * 10 ^ q ≡ 10 ^ i * 10 ^ q * 10 ^ f = rw (pow-add 10 i f, mul_right_comm (10 ^ i) (10 ^ f) (10 ^ q)) in
    by_test (leb (10 ^ i) (x / 10 ^ q))
    (λ t. rw t (le-leb _ _ ((le-div_iff_mul-le (ten_pos q)).1 (rw e (mul-le-mul_right (10 ^ f) ((le-div_iff_mul-le (ten_pos q)).0 (leb-true _ _ t)))))))
    (λ t. rw t (lt-leb _ _ ((div-lt_iff_lt-mul (ten_pos q)).1 (rw e (mul-lt-mul_of_pos_right ((div-lt_iff_lt-mul (ten_pos q)).0 (leb-false _ _ t)) (ten_pos f))))))

pub cut_size : (φ : Form) (m : ℤ) (q : ℕ) → too_big Cut φ m q ≡ (leb (10 ^ whole φ) (nat_abs m / 10 ^ q) || is_minus Cut φ m q && not (has_sign φ))
unfolding too_big aligned
cut_size φ m q =
    let e : leb (10 ^ digit_count φ) (aligned Cut φ m q) ≡ leb (10 ^ whole φ) (nat_abs m / 10 ^ q) =
    rw (← cut_off Cut (nat_abs m * 10 ^ places φ) (10 ^ q) refl, ← digit_sum φ) (cut_test (nat_abs m) q (whole φ) (places φ)) in
    ap (λ (b : Bool). b || is_minus Cut φ m q && not (has_sign φ)) e

-- A value with the other sign.

signless : (b : Bool) (t : ℕ) (sign : Bool) → (sign ≡ true) ⊎ (t ≡ 0) → (b && not (eqb t 0) && not sign) ≡ false
signless b t sign (inl e) = rw e (and-false (b && not (eqb t 0)))
signless b t sign (inr e) = rw e (rw (and-false b))

module _ (w : Rounding) (φ : Form) (q : ℕ) where
  turned_aligned : (m : ℤ) → aligned w φ (neg_ℤ m) q ≡ aligned w φ m q
  unfolding aligned
  turned_aligned m = rw (neg_abs m)

  zero_aligned : aligned w φ (pos 0) q ≡ 0
  unfolding aligned
  zero_aligned = ap (λ (x : ℕ). quotient w x (10 ^ q)) (zero-mul (10 ^ places φ) ∙ sym (zero-mul (10 ^ q))) ∙ quotient_exact w 0 (10 ^ q) (ten_pos q)

  pub symmetric : (m : ℤ) → aligned_value w φ (neg_ℤ m) q ≡ neg_ℤ (aligned_value w φ m q)
  symmetric (pos zero) = rw (value_is w φ (pos 0) q, zero_aligned)
  symmetric (pos (suc n)) = value_is w φ (negsuc n) q ∙ ap (λ (t : ℕ). neg_ℤ (pos t)) (turned_aligned (pos (suc n))) ∙ ap neg_ℤ (sym (value_is w φ (pos (suc n)) q))
  symmetric (negsuc n) =
      value_is w φ (pos (suc n)) q ∙ ap pos (turned_aligned (negsuc n)) ∙ sym (neg_ℤ-neg_ℤ (pos (aligned w φ (negsuc n) q))) ∙ ap neg_ℤ (sym (value_is w φ (negsuc n) q))

  -- it is edited too, where the picture has a sign or nothing is left to have one
  pub turned_edits : (m : ℤ) (f : List ℕ) → (has_sign φ ≡ true) ⊎ (aligned w φ m q ≡ 0) → Edits w φ m q f → Edits w φ (neg_ℤ m) q (edited w φ (neg_ℤ m) q)
  unfolding in_range too_big is_minus
  turned_edits m f h e =
      let s = neither (leb (10 ^ digit_count φ) (aligned w φ m q)) _ e.size in
      record {
        value = rw (neg_abs m) e.value;
        size = rw (turned_aligned m, s.0) (signless (is_negative (neg_ℤ m)) (aligned w φ m q) (has_sign φ) h);
        field = refl;
      }

-- Where the picture has places enough.
module _ (φ : Form) (m : ℤ) (q : ℕ) (h : q ≤ places φ) where
  whole_aligned : (w : Rounding) → aligned w φ m q ≡ nat_abs m * 10 ^ (places φ - q)
  unfolding aligned
  whole_aligned w = quotient_up w (nat_abs m) q (places φ) h

  same_aligned : (v w : Rounding) → aligned v φ m q ≡ aligned w φ m q
  same_aligned v w = whole_aligned v ∙ sym (whole_aligned w)

  pub modes_agree : (v w : Rounding) → (too_big v φ m q ≡ too_big w φ m q) × (edited v φ m q ≡ edited w φ m q)
  unfolding too_big edited is_minus
  modes_agree v w = (rw (same_aligned v w), rw (same_aligned v w))

-- then both calls on a picture give the same
pub calls_agree : (v w : Rounding) (t : List ℕ) (m : ℤ) (q : ℕ) (out : List ℕ) → q ≤ places (meaning t)
    → (edit_answer v t m q out ≡ edit_answer w t m q out) × (edit_memory v t m q out ≡ edit_memory w t m q out)
unfolding edit_answer edit_memory edit_number
calls_agree v w t m q out h = let a = modes_agree (meaning t) m q h v w in (rw a.0, rw (a.0, a.1))

-- At a picture's own scale: what a field says, and what a plan's fields get and have, is the same in either mode.

pub own_edits : (v w : Rounding) (φ : Form) (m : ℤ) (f : List ℕ) → Edits v φ m (places φ) f → Edits w φ m (places φ) f
own_edits v w φ m f e =
    let a = modes_agree φ m (places φ) (le_refl (places φ)) v w in
    record { value = e.value; size = sym a.0 ∙ e.size; field = sym a.1 ∙ e.field }

-- the numbers that a row's values get, and their fields
pub own_modes : (v w : Rounding) (φs : List Form) (row : List ℤ) → (verdicts_in v φs row ≡ verdicts_in w φs row) × (record_in v φs row ≡ record_in w φs row)
unfolding verdicts_in record_in
own_modes v w [] row = (refl, refl)
own_modes v w (φ ∷ φs) [] = (refl, refl)
own_modes v w (φ ∷ φs) (m ∷ ms) =
    let a = modes_agree φ m (places φ) (le_refl (places φ)) v w in
    let b = own_modes v w φs ms in
    (rw (a.0, b.0), rw (a.1, b.1))
