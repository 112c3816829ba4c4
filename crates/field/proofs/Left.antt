-- What is left of a magnitude as its digits come off from the right: one position on it is the same or a
-- tenth of it, its last digit is the one that is due, and it is 0 exactly where all digits before are 0, if
-- the magnitude has no more digits than the form. Assumes nothing.
use mathlib.Core.Path.{◌≡◌, sym, ◌∙◌, ap, subst}
use mathlib.Core.Bool.{true, cond}
use mathlib.Core.List.{List}
use Prim.Native.Nat.{ℕ, zero, suc, ◌-◌, ◌/◌, ◌%◌, ◌^◌, ◌<◌, ◌≤◌}
use native.Mathlib.Nat.{div-div-eq-div-mul, div-eq_of_lt, div-one, pow-suc}
use native.Mathlib.Omega.{arith}
use borrow.Author.Tests.{eqb-true, eqb-false}
use lib.Dec.{eqb}
use lib.ListN.{length, get_or, take, drop, drop_of_length-le}
use lib.Seq.{drop-cons}
use Rattle.rules.specs.Words.{count}
use Rattle.rules.specs.Digits.{digits_of}
use Rattle.rules.specs.Roles.{is_digit}
use Rattle.rules.proofs.Digits.{digits_at}
use Rattle.rules.proofs.Lists.{count_split}
use Rattle.rules.proofs.Logic.{by_test}
use Rattle.field.specs.Results.{left_at}

module _ (rs : List ℕ) (t : ℕ) where
  pub left_all : left_at rs t (length rs) ≡ t
  unfolding left_at count
  left_all = let h : length rs ≤ length rs = omega arith in rw (drop_of_length-le rs h) (div-one t)

  pub left_step : (k : ℕ) → k < length rs → left_at rs t k ≡ cond (is_digit (get_or rs k 0)) (left_at rs t (suc k) / 10) (left_at rs t (suc k))
  unfolding left_at count
  left_step k h =
      rw (drop-cons rs k 0 h)
      (by_test (is_digit (get_or rs k 0)) (λ d. rw (d, pow-suc 10 (count is_digit (drop (suc k) rs))) (sym (div-div-eq-div-mul t (10 ^ count is_digit (drop (suc k) rs)) 10))) (λ d. rw d))

  -- the same from the position behind, as a loop comes to it
  pub left_back : (k : ℕ) → 0 < k → k ≤ length rs → left_at rs t (k - 1) ≡ cond (is_digit (get_or rs (k - 1) 0)) (left_at rs t k / 10) (left_at rs t k)
  left_back k h l =
      let e : suc (k - 1) ≡ k = omega arith in
      subst (λ (n : ℕ). left_at rs t (k - 1) ≡ cond (is_digit (get_or rs (k - 1) 0)) (left_at rs t n / 10) (left_at rs t n)) e (left_step (k - 1) (omega arith))

  -- where nothing is left nothing is left before
  pub left_none : (k i : ℕ) → k ≤ length rs → i ≤ k → left_at rs t k ≡ 0 → left_at rs t i ≡ 0
  left_none zero i h l e = let z : i ≡ 0 = omega arith in rw z e
  left_none (suc k) i h l e =
      let b : left_at rs t k ≡ 0 = left_step k (omega arith) ∙ rw e (by_test (is_digit (get_or rs k 0)) (λ d. rw d) (λ d. rw d)) in
      by_test (eqb i (suc k)) (λ q. rw (eqb-true i (suc k) q) e) (λ q. let n : (i ≡ suc k → ⊥) = eqb-false i (suc k) q in left_none k i (omega arith) (omega arith) b)

  -- and it is where all digits before are 0
  pub left_zeros : t < 10 ^ count is_digit rs → (k : ℕ) → k ≤ length rs → ((i : ℕ) → i < k → is_digit (get_or rs i 0) ≡ true → left_at rs t (suc i) % 10 ≡ 0) → left_at rs t k ≡ 0
  unfolding left_at
  left_zeros s zero h z = div-eq_of_lt s
  left_zeros s (suc k) h z =
      let e : left_at rs t k ≡ 0 = left_zeros s k (omega arith) (λ i l d. z i (omega arith) d) in
      let q = sym (left_step k (omega arith)) ∙ e in
      by_test (is_digit (get_or rs k 0))
      (λ d. let a : left_at rs t (suc k) / 10 ≡ 0 = rw d at q in let b = z k (omega arith) d in omega arith)
      (λ d. rw d at q)

  -- the digit at position k
  pub left_due : (k : ℕ) → k < length rs → is_digit (get_or rs k 0) ≡ true → get_or (digits_of (count is_digit rs) t) (count is_digit (take k rs)) 0 ≡ left_at rs t (suc k) % 10
  unfolding left_at count
  left_due k h d =
      let c : count is_digit (drop k rs) ≡ suc (count is_digit (drop (suc k) rs)) = rw (drop-cons rs k 0 h, d) in
      let n : count is_digit rs - 1 - count is_digit (take k rs) ≡ count is_digit (drop (suc k) rs) = omega (arith, count_split is_digit k rs) in
      digits_at (count is_digit rs) t (count is_digit (take k rs)) (omega (arith, count_split is_digit k rs)) ∙ ap (λ (e : ℕ). t / 10 ^ e % 10) n
