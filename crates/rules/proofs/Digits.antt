-- Digits of a number and the number of digits are inverse, and what a loop over digits keeps. Assumes nothing.
use mathlib.Core.Path.{◌≡◌, refl, sym, ◌∙◌, ap}
use mathlib.Core.List.{List, [], ◌∷◌, ◌++◌}
use Prim.Native.Nat.{ℕ, zero, suc, ◌+◌, ◌-◌, ◌*◌, ◌/◌, ◌%◌, ◌^◌, ◌≤◌, ◌<◌}
use native.Mathlib.Nat.{zero-div, sub-add_cancel, mul_assoc, pow-suc, pow-succ', pow-le-pow_right, one-le-pow, mod-eq_of_lt, mod-one, mul-add-div_right, mul-add-mod_self_right, le_of_suc-le-suc, not-suc-le-zero}
use native.Mathlib.Numerals.{add-one}
use native.Mathlib.Omega.{arith}
use lib.Pow.{pow-add}
use lib.Arith.{digits_lt, digits_div, mod-mul}
use lib.Dec.{lit<}
use lib.ListN.{length, get_or, length-append}
use Rattle.rules.specs.Digits.{Digits, digits_of, value_of}

pub ten_pos : (k : ℕ) → 0 < 10 ^ k
ten_pos k = one-le-pow k 10 (lit< tt)

-- the larger of two powers by the smaller
pub ten_split : (a b : ℕ) → a ≤ b → 10 ^ b ≡ 10 ^ (b - a) * 10 ^ a
ten_split a b h = ap (λ k. 10 ^ k) (sym (sub-add_cancel h)) ∙ pow-add 10 (b - a) a

pub digits_length : (d t : ℕ) → length (digits_of d t) ≡ d
unfolding digits_of
digits_length zero t = refl
digits_length (suc d) t = ap suc (digits_length d t)

pub digits_digits : (d t : ℕ) → Digits (digits_of d t)
unfolding digits_of
digits_digits zero t k = lit< tt
digits_digits (suc d) t zero = omega arith
digits_digits (suc d) t (suc k) = digits_digits d t k

-- the digit at j
pub digits_at : (d t j : ℕ) → j < d → get_or (digits_of d t) j 0 ≡ t / 10 ^ (d - 1 - j) % 10
unfolding digits_of
digits_at zero t j h = absurd (not-suc-le-zero h)
digits_at (suc d) t zero h = ap (λ k. t / 10 ^ k % 10) (omega arith)
digits_at (suc d) t (suc j) h =
    digits_at d t j (le_of_suc-le-suc h) ∙ ap (λ k. t / 10 ^ k % 10) (omega arith)

-- what the digits spell is the number without what stands above them
pub value_digits_mod : (d t : ℕ) → value_of (digits_of d t) ≡ t % 10 ^ d
unfolding digits_of value_of
value_digits_mod zero t = sym (mod-one t)
value_digits_mod (suc d) t =
    rw (digits_length d t, value_digits_mod d t, pow-succ' 10 d) (sym (mod-mul t (lit< tt) (ten_pos d)))

pub value_digits : (d t : ℕ) → t < 10 ^ d → value_of (digits_of d t) ≡ t
value_digits d t h = value_digits_mod d t ∙ mod-eq_of_lt h

pub value_lt : (ds : List ℕ) → Digits ds → value_of ds < 10 ^ length ds
unfolding value_of
value_lt [] ok = lit< tt
value_lt (x ∷ xs) ok = rw (pow-succ' 10 (length xs)) (digits_lt (ok 0) (value_lt xs (λ k. ok (suc k))))

-- multiples of 10 ^ d don't show in the last d digits
pub digits_low : (d y v : ℕ) → digits_of d (y * 10 ^ d + v) ≡ digits_of d v
unfolding digits_of
digits_low zero y v = refl
digits_low (suc d) y v =
    rw (pow-succ' 10 d, ← mul_assoc y 10 (10 ^ d), mul-add-div_right (ten_pos d) (y * 10) v, mul-add-mod_self_right y 10, digits_low d (y * 10) v)

pub digits_value : (ds : List ℕ) → Digits ds → digits_of (length ds) (value_of ds) ≡ ds
unfolding digits_of value_of
digits_value [] ok = refl
digits_value (x ∷ xs) ok =
    rw (digits_div x (value_lt xs (λ k. ok (suc k))), mod-eq_of_lt (ok 0), digits_low (length xs) x (value_of xs), digits_value xs (λ k. ok (suc k)))

-- one digit more at the end: what a loop over the digits does
pub value_snoc : (xs : List ℕ) (x : ℕ) → value_of (xs ++ (x ∷ [])) ≡ value_of xs * 10 + x
unfolding value_of
value_snoc [] x = omega arith
value_snoc (y ∷ ys) x = rw (length-append ys, add-one, pow-suc, ← mul_assoc, value_snoc ys x) (omega arith)

pub ten_le : (i k : ℕ) → i ≤ k → 10 ^ i ≤ 10 ^ k
ten_le i k h = pow-le-pow_right (lit< tt) h

-- every digit of 0 is 0
pub digits_zero : (d k : ℕ) → get_or (digits_of d 0) k 0 ≡ 0
unfolding digits_of
digits_zero zero k = refl
digits_zero (suc d) zero = rw zero-div
digits_zero (suc d) (suc k) = digits_zero d k
