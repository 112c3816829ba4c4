-- Alignment by one product or one division: a magnitude that goes up in scale has no fraction, so its size is
-- that of the product, which is told before it is taken; one that goes down is divided, and its size told of
-- what comes out. Assumes nothing.
use mathlib.Core.Path.{◌≡◌, sym, ◌∙◌, ap}
use mathlib.Core.Bool.{and-false}
use Prim.Native.Nat.{ℕ, ◌+◌, ◌-◌, ◌*◌, ◌^◌, ◌≤◌, ◌<◌}
use native.Mathlib.Nat.{mul-le-mul_right, mul-lt-mul_of_pos_right, lt_of_lt_of_le}
use native.Mathlib.Omega.{arith}
use lib.Pow.{pow-add}
use lib.Dec.{leb, ltb}
use lib.ListN.{get_or}
use Rattle.rules.specs.Powers.{powers}
use Rattle.rules.proofs.Powers.{power_at}
use borrow.Author.Tests.{lt-ltb, ltb-true, leb-true, le-ltb, ltb-false, le-leb, lt-leb}
use Rattle.std.specs.Prelude.{Some, None}
use Rattle.std.proofs.lemmas.Option.{cond_some, none-some}
use Rattle.rules.specs.declared.Rounding.{Rounding}
use Rattle.rules.specs.Shape.{most_digits}
use Rattle.rules.specs.Edit.{most_scale, quotient}
use Rattle.rules.proofs.Digits.{ten_pos, ten_le}
use Rattle.rules.proofs.Quotient.{quotient_up, quotient_down}
use Rattle.rules.proofs.Logic.{both, by_test}
use Rattle.decimal.specs.Align.{aligned_of}

-- the limit of the product, by what the magnitude has to be below
up_limit : (q i f : ℕ) → q ≤ f → 10 ^ (i + f) ≡ 10 ^ (i + q) * 10 ^ (f - q)
up_limit q i f h = ap (λ k. 10 ^ k) (omega arith) ∙ pow-add 10 (i + q) (f - q)

up_lt : (m q i f : ℕ) → q ≤ f → m < 10 ^ (i + q) → m * 10 ^ (f - q) < 10 ^ (i + f)
up_lt m q i f h l = rw (up_limit q i f h) (mul-lt-mul_of_pos_right l (ten_pos (f - q)))

-- the product fits
pub up_fits : (m q i f : ℕ) → q ≤ f → m < 10 ^ (i + q) → i + f ≤ most_digits → m * 10 ^ (f - q) < 10 ^ most_digits
up_fits m q i f h l k = lt_of_lt_of_le (up_lt m q i f h l) (ten_le (i + f) most_digits k)

module _ (w : Rounding) (m q i f : ℕ) where
  abbrev pub moved : ℕ
  moved = quotient w (m * 10 ^ f) (10 ^ q)

  -- refused: by each of the four tests
  pub aligned_large : 10 ^ most_digits ≤ m → aligned_of w m q i f ≡ None
  unfolding aligned_of
  aligned_large h = rw (le-ltb _ _ h)

  pub aligned_scale : most_scale < q → aligned_of w m q i f ≡ None
  unfolding aligned_of
  aligned_scale h = rw (lt-leb _ _ h, and-false (ltb m (10 ^ most_digits)))

  pub aligned_room : most_digits < i + f → aligned_of w m q i f ≡ None
  unfolding aligned_of
  aligned_room h = rw (lt-leb _ _ h, and-false (leb q most_scale), and-false (ltb m (10 ^ most_digits)))

  aligned_over : 10 ^ (i + f) ≤ moved → aligned_of w m q i f ≡ None
  unfolding aligned_of
  aligned_over h = rw (le-ltb _ _ h, and-false (leb (i + f) most_digits), and-false (leb q most_scale), and-false (ltb m (10 ^ most_digits)))

  -- going up, and going down to a t
  pub up_over : q ≤ f → 10 ^ (i + q) ≤ m → aligned_of w m q i f ≡ None
  up_over h l = aligned_over (rw (quotient_up w m q f h, up_limit q i f h) (mul-le-mul_right (10 ^ (f - q)) l))

  pub down_over : f ≤ q → (t : ℕ) → t ≡ quotient w m (10 ^ (q - f)) → 10 ^ (i + f) ≤ t → aligned_of w m q i f ≡ None
  down_over h t e l = aligned_over (rw (quotient_down w m q f h, ← e) l)

  -- What is aligned is the magnitude moved, and the digits hold it.
  pub aligned_some : (t : ℕ) → aligned_of w m q i f ≡ Some t → (i + f ≤ most_digits) × (t ≡ moved) × (t < 10 ^ (i + f))
  unfolding aligned_of
  aligned_some t e =
      let c = cond_some _ _ _ e in
      let b = both (leb (i + f) most_digits) (ltb moved (10 ^ (i + f))) (both (leb q most_scale) _ (both (ltb m (10 ^ most_digits)) _ c.0).1).1 in
      (leb-true _ _ b.0, sym c.1, rw (sym c.1) (ltb-true moved (10 ^ (i + f)) b.1))

  -- where the other three hold, the size decides
  module _ (small : m < 10 ^ most_digits) (scale : q ≤ most_scale) (room : i + f ≤ most_digits) where
    aligned_in : moved < 10 ^ (i + f) → aligned_of w m q i f ≡ Some moved
    unfolding aligned_of
    aligned_in h = rw (lt-ltb _ _ small, le-leb _ _ scale, le-leb _ _ room, lt-ltb _ _ h)

    pub aligned_none : aligned_of w m q i f ≡ None → 10 ^ (i + f) ≤ moved
    aligned_none e =
        by_test (ltb moved (10 ^ (i + f)))
        (λ l. absurd (none-some moved (sym e ∙ aligned_in (ltb-true moved (10 ^ (i + f)) l))))
        (ltb-false moved (10 ^ (i + f)))

    pub up_in : q ≤ f → m < 10 ^ (i + q) → aligned_of w m q i f ≡ Some (m * 10 ^ (f - q))
    up_in h l = rw (← quotient_up w m q f h) (aligned_in (rw (quotient_up w m q f h) (up_lt m q i f h l)))

    pub down_in : f ≤ q → (t : ℕ) → t ≡ quotient w m (10 ^ (q - f)) → t < 10 ^ (i + f) → aligned_of w m q i f ≡ Some t
    down_in h t e l = rw (e, ← quotient_down w m q f h) (aligned_in (rw (quotient_down w m q f h, ← e) l))

-- the ways through `align`, by the table of powers
module _ (w : Rounding) (m q i f : ℕ) (small : m < 10 ^ most_digits) (scale : q ≤ most_scale) (room : i + f ≤ most_digits) where
  pub up_past : q ≤ f → get_or powers (i + q) 0 ≤ m → aligned_of w m q i f ≡ None
  up_past h l = up_over w m q i f h (omega (arith, power_at (i + q) (omega arith)))

  pub up_within : q ≤ f → m < get_or powers (i + q) 0 → aligned_of w m q i f ≡ Some (m * get_or powers (f - q) 0)
  up_within h l = rw (power_at (f - q) (omega arith)) (up_in w m q i f small scale room h (omega (arith, power_at (i + q) (omega arith))))

  module _ (t : ℕ) (e : t ≡ quotient w m (get_or powers (q - f) 0)) where
    moved_down : f ≤ q → t ≡ quotient w m (10 ^ (q - f))
    moved_down h = rw (power_at (q - f) (omega arith)) at e

    pub down_past : f ≤ q → get_or powers (i + f) 0 ≤ t → aligned_of w m q i f ≡ None
    down_past h l = down_over w m q i f h t (moved_down h) (omega (arith, power_at (i + f) (omega arith)))

    pub down_within : f ≤ q → t < get_or powers (i + f) 0 → aligned_of w m q i f ≡ Some t
    down_within h l = down_in w m q i f small scale room h t (moved_down h) (omega (arith, power_at (i + f) (omega arith)))

pub ruleset ways = (aligned_large, aligned_scale, aligned_room, up_past, up_within, down_past, down_within)
