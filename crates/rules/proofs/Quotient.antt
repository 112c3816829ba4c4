-- A division in either mode of RULES 3.2: where it has no fraction there is nothing to round, a factor of both numbers makes no
-- difference, and what comes out is less than one away, in rounding half of one at the most. Assumes nothing.
use mathlib.Core.Path.{◌≡◌, refl, sym, ◌∙◌}
use mathlib.Core.Bool.{true, false, true≢false}
use Prim.Native.Nat.{ℕ, ◌+◌, ◌-◌, ◌*◌, ◌/◌, ◌%◌, ◌^◌, ◌≤◌, ◌<◌}
use native.Mathlib.Nat.{add-zero, add-mul, mul_assoc, mul-div_cancel, mul-div-mul_right, mul-mod_left, mul-le-mul_right, mul-lt-mul_of_pos_right, mod-eq-sub-div-mul, mod-lt, div-add-mod'}
use native.Mathlib.Omega.{arith}
use borrow.Author.Tests.{leb-true, leb-false, le-leb, lt-leb}
use lib.Dec.{leb}
use Rattle.rules.specs.declared.Rounding.{Rounding}
use Rattle.rules.specs.declared.Rounding.TheVariants.{HalfAway, Cut}
use Rattle.rules.specs.Edit.{rounds_up, quotient}
use Rattle.rules.proofs.Digits.{ten_pos, ten_split}
use Rattle.rules.proofs.Logic.{by_test}

-- what counts as one is a half or more
up_half : (w : Rounding) (rest d : ℕ) → rounds_up w rest d ≡ true → d ≤ 2 * rest
unfolding rounds_up
up_half HalfAway rest d e = leb-true d (2 * rest) e
up_half Cut rest d e = absurd (true≢false (sym e))

none_up : (w : Rounding) (d : ℕ) → 0 < d → rounds_up w 0 d ≡ false
unfolding rounds_up
none_up HalfAway d h = lt-leb d 0 h
none_up Cut d h = refl

scaled_up : (w : Rounding) (rest d k : ℕ) → 0 < k → rounds_up w (rest * k) (d * k) ≡ rounds_up w rest d
unfolding rounds_up
scaled_up HalfAway rest d k h =
    rw (← mul_assoc 2 rest k)
    (by_test (leb d (2 * rest))
    (λ e. rw e (le-leb _ _ (mul-le-mul_right k (leb-true d (2 * rest) e))))
    (λ e. rw e (lt-leb _ _ (mul-lt-mul_of_pos_right (leb-false d (2 * rest) e) h))))
scaled_up Cut rest d k h = refl

scaled_rest : (x d k : ℕ) → 0 < k → x * k % (d * k) ≡ x % d * k
scaled_rest x d k h =
    let e : x / d * (d * k) + x % d * k ≡ x * k = rw (← mul_assoc (x / d) d k, ← add-mul (x / d * d) (x % d) k, div-add-mod' x d) in
    mod-eq-sub-div-mul (x * k) (d * k) ∙ rw (mul-div-mul_right x d h) (omega (arith, e))

module _ (w : Rounding) where
  pub quotient_exact : (x d : ℕ) → 0 < d → quotient w (x * d) d ≡ x
  unfolding quotient
  quotient_exact x d h = rw (mul-div_cancel x h, mul-mod_left x d, none_up w d h, add-zero)

  pub quotient_scaled : (x d k : ℕ) → 0 < k → quotient w (x * k) (d * k) ≡ quotient w x d
  unfolding quotient
  quotient_scaled x d k h = rw (mul-div-mul_right x d h, scaled_rest x d k h, scaled_up w (x % d) d k h)

  -- rounding takes nothing away
  pub quotient_least : (x d : ℕ) → x / d ≤ quotient w x d
  unfolding quotient
  quotient_least x d = omega arith

  -- less than one away, on either side
  pub quotient_near : (x d : ℕ) → 0 < d → (quotient w x d * d < x + d) × (x < quotient w x d * d + d)
  unfolding quotient
  quotient_near x d h =
      by_test (rounds_up w (x % d) d)
      (λ e. rw (e, add-mul (x / d) 1 d) (omega (arith, div-add-mod' x d, mod-lt x h, up_half w (x % d) d e), omega (arith, div-add-mod' x d, mod-lt x h)))
      (λ e. rw (e, add-zero) (omega (arith, div-add-mod' x d), omega (arith, div-add-mod' x d, mod-lt x h)))

  -- by powers of ten, of which the smaller divides the larger: a product, or a division by what the larger has more
  pub quotient_up : (x q f : ℕ) → q ≤ f → quotient w (x * 10 ^ f) (10 ^ q) ≡ x * 10 ^ (f - q)
  quotient_up x q f h = rw (ten_split q f h, ← mul_assoc) (quotient_exact (x * 10 ^ (f - q)) (10 ^ q) (ten_pos q))

  pub quotient_down : (x q f : ℕ) → f ≤ q → quotient w (x * 10 ^ f) (10 ^ q) ≡ quotient w x (10 ^ (q - f))
  quotient_down x q f h = rw (ten_split f q h) (quotient_scaled x (10 ^ (q - f)) (10 ^ f) (ten_pos f))

-- a division at each way through it
module _ (w : Rounding) (x d : ℕ) where
  pub half_up : w ≡ HalfAway → d ≤ 2 * (x % d) → x / d + 1 ≡ quotient w x d
  unfolding quotient rounds_up
  half_up e l = rw (e, le-leb d (2 * (x % d)) l)

  pub less_off : w ≡ HalfAway → 2 * (x % d) < d → x / d ≡ quotient w x d
  unfolding quotient rounds_up
  less_off e l = rw (e, lt-leb d (2 * (x % d)) l, add-zero)

  pub cut_off : w ≡ Cut → x / d ≡ quotient w x d
  unfolding quotient rounds_up
  cut_off e = rw (e, add-zero)

-- in rounding half of one at the most
pub quotient_half : (x d : ℕ) → 0 < d → (2 * (quotient HalfAway x d * d) ≤ 2 * x + d) × (2 * x ≤ 2 * (quotient HalfAway x d * d) + d)
unfolding quotient rounds_up
quotient_half x d h =
    by_test (leb d (2 * (x % d)))
    (λ e. rw (e, add-mul (x / d) 1 d) (omega (arith, div-add-mod' x d, leb-true d (2 * (x % d)) e), omega (arith, div-add-mod' x d, mod-lt x h)))
    (λ e. rw (e, add-zero) (omega (arith, div-add-mod' x d), omega (arith, div-add-mod' x d, leb-false d (2 * (x % d)) e)))

-- by the cut no more than the dividend
pub quotient_cut : (x d : ℕ) → quotient Cut x d * d ≤ x
unfolding quotient rounds_up
quotient_cut x d = rw add-zero (omega (arith, div-add-mod' x d))
