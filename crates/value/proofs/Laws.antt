-- What is settled of a value by a form with no more digits than a picture may have: the number is that of the
-- rules, and without a refusal the sign and aligned magnitude are the value's own, and the form has digits
-- for it. Assumes nothing.
use Prim.Native.Nat.{ℕ, ◌^◌, ◌<◌, ◌≤◌}
use mathlib.Core.Path.{◌≡◌, sym, ap, ◌∙◌}
use mathlib.Core.Bool.{false, ◌||◌}
use mathlib.Core.List.{[], ◌∷◌}
use native.Mathlib.Omega.{arith}
use borrow.Author.Tests.{le-ltb, leb-false}
use lib.Dec.{leb, ltb}
use lib.IntN.{ℤ}
use Rattle.std.specs.Prelude.{Result, Ok, Err}
use Rattle.rules.specs.declared.Refusal.{Refusal}
use Rattle.rules.specs.declared.Rounding.{Rounding}
use Rattle.rules.specs.Numbers.{VALUE, SIZE, when, unless, first_of}
use Rattle.rules.specs.Refusals.{refusal_number, result_number}
use Rattle.rules.specs.Form.{Form}
use Rattle.rules.specs.Shape.{most_digits, digit_count}
use Rattle.rules.specs.Edit.{in_range, too_big, aligned, is_minus}
use Rattle.rules.proofs.Firsts.{first_zero}
use Rattle.rules.proofs.Logic.{by_test, neither}
use Rattle.decimal.specs.declared.sign.Signed.{Signed}
use Rattle.value.specs.Settling.{settle_number, settled_of}

module _ (w : Rounding) (φ : Form) (m : ℤ) (q : ℕ) where
  abbrev own : ℕ
  own = first_of (unless (in_range m q) VALUE ∷ when (too_big w φ m q) SIZE ∷ [])

  pub not_big : own ≡ 0 → too_big w φ m q ≡ false
  not_big z =
      let y = (first_zero (when (too_big w φ m q) SIZE) [] (first_zero (unless (in_range m q) VALUE) _ z).1).0 in
      by_test (too_big w φ m q) (λ b. let x : SIZE ≡ 0 = rw b at y in absurd (omega arith)) (λ b. b)

  aligned_small : too_big w φ m q ≡ false → aligned w φ m q < 10 ^ digit_count φ
  unfolding too_big
  aligned_small b = leb-false _ _ (neither (leb (10 ^ digit_count φ) (aligned w φ m q)) _ b).0

  -- the number of what is settled
  pub settle_number_is : result_number (settled_of w φ m q) ≡ settle_number w φ m q
  unfolding settled_of settle_number first_of
  settle_number_is =
      by_test (in_range m q)
      (λ r. rw r (by_test (ltb most_digits (digit_count φ) || too_big w φ m q) (λ b. rw b) (λ b. rw b)))
      (λ r. rw r)

  module _ (few : digit_count φ ≤ most_digits) where
    settle_is : settle_number w φ m q ≡ own
    unfolding settle_number
    settle_is = rw (le-ltb most_digits (digit_count φ) few)

    module _ (r : Result Signed Refusal) (e : r ≡ settled_of w φ m q) where
      pub settled_number : result_number r ≡ own
      settled_number = rw e (settle_number_is ∙ settle_is)

    -- a refusal
    pub settled_refused : (r : Refusal) → Err r ≡ settled_of w φ m q → refusal_number r ≡ own
    settled_refused r e = settled_number (Err r) e

    -- the sign and the magnitude that are settled
    module _ (s : Signed) (e : Ok s ≡ settled_of w φ m q) where
      pub settled_none : own ≡ 0
      settled_none = sym (settled_number (Ok s) e)

      settled_signed : s ≡ record { negative = is_minus w φ m q; magnitude = aligned w φ m q }
      unfolding settled_of
      settled_signed =
          by_test (in_range m q)
          (λ r. by_test (ltb most_digits (digit_count φ) || too_big w φ m q) (λ b. let f = rw (r, b) at e in cc) (λ b. let f = rw (r, b) at e in cc))
          (λ r. let f = rw r at e in cc)

      pub settled_minus : s.negative ≡ is_minus w φ m q
      settled_minus = ap (λ (x : Signed). x.negative) settled_signed

      pub settled_t : s.magnitude ≡ aligned w φ m q
      settled_t = ap (λ (x : Signed). x.magnitude) settled_signed

      pub settled_small : s.magnitude < 10 ^ digit_count φ
      settled_small = rw settled_t (aligned_small (not_big settled_none))
