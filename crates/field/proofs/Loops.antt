-- One law for each way through a loop over roles in the crates above: what a turn adds to what has been shown,
-- and where a search stops. Assumes nothing.
use mathlib.Core.Path.{◌≡◌, sym}
use mathlib.Core.Bool.{Bool, true, false, not, and-false, or-true}
use mathlib.Core.List.{List, [], ◌∷◌, ◌++◌}
use Prim.Native.Nat.{ℕ, zero, suc, ◌+◌, ◌<◌, ◌≤◌, min}
use native.Mathlib.Nat.{not-suc-le-zero, le_of_suc-le-suc}
use native.Mathlib.Numerals.{add-one}
use native.Mathlib.Omega.{arith}
use borrow.Author.Tests.{eq-eqb, ne_eqb}
use lib.Dec.{eqb}
use lib.ListN.{length, get_or, take, drop}
use Rattle.rules.specs.Words.{count}
use Rattle.rules.specs.Search.{first}
use Rattle.rules.specs.Roles.{is_digit, is_nine, opens}
use Rattle.rules.specs.Form.{Form, role_at, size}
use Rattle.rules.specs.Edit.{digit_at, opening, start}
use Rattle.rules.specs.Candidate.{digit_in, shown_in}
use Rattle.rules.proofs.Logic.{by_test}
use Rattle.rules.proofs.Lists.{count_split}
use Rattle.rules.proofs.Search.{first_here, first_le, first_more}
use Rattle.rules.proofs.Fields.{tail_at}
use Rattle.rules.proofs.Stretch.{counts, start_simple}

pub count_part : (p : ℕ → Bool) (rs : List ℕ) (k : ℕ) → count p (take k rs) ≤ count p rs
count_part p rs k = omega (arith, count_split p k rs)

-- The digits shown, one position on.
pub shown_more : (rs f : List ℕ) (k : ℕ) → k < length rs → is_digit (get_or rs k 0) ≡ true → shown_in (take (k + 1) rs) f ≡ shown_in (take k rs) f ++ (digit_in (get_or f k 0) ∷ [])
unfolding shown_in
shown_more [] f k h e = absurd (not-suc-le-zero h)
shown_more (r ∷ rs) f zero h e = rw e
shown_more (r ∷ rs) f (suc k) h e =
    let ih = rw (add-one, tail_at f k) at (shown_more rs (drop 1 f) k (le_of_suc-le-suc h) e) in
    rw add-one (by_test (is_digit r) (λ q. rw (q, ih)) (λ q. rw (q, ih)))

pub shown_same : (rs f : List ℕ) (k : ℕ) → k < length rs → is_digit (get_or rs k 0) ≡ false → shown_in (take (k + 1) rs) f ≡ shown_in (take k rs) f
unfolding shown_in
shown_same [] f k h e = absurd (not-suc-le-zero h)
shown_same (r ∷ rs) f zero h e = rw e
shown_same (r ∷ rs) f (suc k) h e =
    let ih = rw add-one at (shown_same rs (drop 1 f) k (le_of_suc-le-suc h) e) in
    rw (add-one, ih)

-- The searches: the place looked for has not been passed.
module _ (φ : Form) where
  pub opening_here : (k : ℕ) → k ≤ opening φ → opens (role_at φ k) ≡ true → k ≡ opening φ
  unfolding opening
  opening_here k h e = sym (first_here (λ j. opens (role_at φ j)) (size φ) k h e)

  pub opening_more : (k : ℕ) → k ≤ opening φ → k < size φ → opens (role_at φ k) ≡ false → k + 1 ≤ opening φ
  unfolding opening
  opening_more k h l e = first_more (λ j. opens (role_at φ j)) (size φ) k h l e

  module _ (ds : List ℕ) where
    -- the first position that holds a nine or a nonzero digit
    unfoldable pub counted : ℕ
    counted = first (λ k. counts φ ds k) (size φ)

    pub start_counted : start φ ds ≡ min φ.vee counted
    unfolding counted
    start_counted = start_simple φ ds

    pub counted_nine : (k : ℕ) → k ≤ counted → is_digit (role_at φ k) ≡ true → is_nine (role_at φ k) ≡ true → counted ≡ k
    unfolding counted counts
    counted_nine k h d e = first_here (λ j. counts φ ds j) (size φ) k h (rw (d, e) (or-true (not (eqb (digit_at φ ds k) 0))))

    pub counted_digit : (k : ℕ) → k ≤ counted → is_digit (role_at φ k) ≡ true → (digit_at φ ds k ≡ 0 → ⊥) → counted ≡ k
    unfolding counted counts
    counted_digit k h d e = first_here (λ j. counts φ ds j) (size φ) k h (rw (d, ne_eqb (digit_at φ ds k) 0 e))

    pub counted_zero : (k : ℕ) → k ≤ counted → k < size φ → is_nine (role_at φ k) ≡ false → digit_at φ ds k ≡ 0 → k + 1 ≤ counted
    unfolding counted counts
    counted_zero k h l n z = first_more (λ j. counts φ ds j) (size φ) k h l (rw (n, eq-eqb (digit_at φ ds k) 0 z) (and-false (is_digit (role_at φ k))))

    pub counted_other : (k : ℕ) → k ≤ counted → k < size φ → is_digit (role_at φ k) ≡ false → k + 1 ≤ counted
    unfolding counted counts
    counted_other k h l d = first_more (λ j. counts φ ds j) (size φ) k h l (rw d)

    pub counted_le : counted ≤ size φ
    unfolding counted
    counted_le = first_le (λ j. counts φ ds j) (size φ)
