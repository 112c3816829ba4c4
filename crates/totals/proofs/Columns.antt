-- A row of values beside the columns of a sheet, place by place; and the first place that is refused. Assumes
-- nothing.
use mathlib.Core.Path.{◌≡◌, refl, sym, ◌∙◌, ap}
use mathlib.Core.Bool.{true, false, Bool, cond, ◌&&◌}
use mathlib.Core.List.{List, [], ◌∷◌}
use Prim.Native.Nat.{ℕ, zero, suc, ◌+◌, ◌<◌, ◌≤◌}
use native.Mathlib.Nat.{le_of_suc-le-suc, not-suc-le-zero}
use native.Mathlib.Omega.{arith}
use native.Mathlib.Numerals.{add-one}
use borrow.Author.Tests.{ne_eqb}
use lib.Dec.{eqb}
use lib.IntN.{ℤ, pos, ◌+ℤ◌}
use lib.ListN.{length, get_or, take, set}
use Rattle.std.specs.Prelude.{None, Option, Some}
use Rattle.rules.specs.Numbers.{bad_field, first_of, later}
use Rattle.rules.proofs.Firsts.{unless_zero}
use Rattle.rules.proofs.Logic.{both, by_test}
use Rattle.totals.specs.Totals.{over, place_numbers, size_at, sum_fits}
use Rattle.totals.specs.Steps.{before, first_bad}

-- Columns.

module _ (f : ℤ → ℤ → ℤ) where
  pub length_over : (xs ms : List ℤ) → length (over f xs ms) ≡ length xs
  unfolding over
  length_over xs [] = refl
  length_over [] (m ∷ ms) = refl
  length_over (x ∷ xs) (m ∷ ms) = ap suc (length_over xs ms)

  -- what stands there is still as it was
  pub over_behind : (xs ms : List ℤ) (i : ℕ) → get_or (over f xs (take i ms)) i (pos 0) ≡ get_or xs i (pos 0)
  unfolding over
  over_behind xs ms zero = refl
  over_behind xs [] (suc i) = refl
  over_behind [] (m ∷ ms) (suc i) = refl
  over_behind (x ∷ xs) (m ∷ ms) (suc i) = over_behind xs ms i

  over_more : (xs ms : List ℤ) (i : ℕ) → i < length xs → i < length ms
      → set (over f xs (take i ms)) i (f (get_or xs i (pos 0)) (get_or ms i (pos 0))) ≡ over f xs (take (suc i) ms)
  unfolding over
  over_more [] ms i h l = absurd (not-suc-le-zero h)
  over_more (x ∷ xs) [] i h l = absurd (not-suc-le-zero l)
  over_more (x ∷ xs) (m ∷ ms) zero h l = refl
  over_more (x ∷ xs) (m ∷ ms) (suc i) h l = ap (λ (t : List ℤ). f x m ∷ t) (over_more xs ms i (le_of_suc-le-suc h) (le_of_suc-le-suc l))

  -- one turn: the result r of the operation is stored
  pub over_turn : (xs now ms : List ℤ) (i : ℕ) (r : ℤ) → i < length xs → i < length ms → now ≡ over f xs (take i ms)
      → r ≡ f (get_or now i (pos 0)) (get_or ms i (pos 0)) → set now i r ≡ over f xs (take (i + 1) ms)
  over_turn xs now ms i r h l n q = rw (add-one, q, n, over_behind xs ms i) (over_more xs ms i h l)

  pub over_at : (xs ms : List ℤ) (i : ℕ) → i < length xs → i < length ms → get_or (over f xs ms) i (pos 0) ≡ f (get_or xs i (pos 0)) (get_or ms i (pos 0))
  unfolding over
  over_at [] ms i h l = absurd (not-suc-le-zero h)
  over_at (x ∷ xs) [] i h l = absurd (not-suc-le-zero l)
  over_at (x ∷ xs) (m ∷ ms) zero h l = refl
  over_at (x ∷ xs) (m ∷ ms) (suc i) h l = over_at xs ms i (le_of_suc-le-suc h) (le_of_suc-le-suc l)

  -- behind the values everything is as it was
  pub over_rest : (xs ms : List ℤ) (i : ℕ) → length ms ≤ i → get_or (over f xs ms) i (pos 0) ≡ get_or xs i (pos 0)
  unfolding over
  over_rest xs [] i h = refl
  over_rest [] (m ∷ ms) i h = refl
  over_rest (x ∷ xs) (m ∷ ms) zero h = absurd (not-suc-le-zero h)
  over_rest (x ∷ xs) (m ∷ ms) (suc i) h = over_rest xs ms i (le_of_suc-le-suc h)

-- The first that is refused.

later_le : (k : ℕ) → later k ≤ k + 1
later_le zero = omega arith
later_le (suc k) = omega arith

later_zero : (k : ℕ) → later k ≡ 0 → k ≡ 0
later_zero zero h = refl
later_zero (suc k) h = absurd (omega arith)

bad_at : (ns : List ℕ) (i : ℕ) → i < length ns → ((j : ℕ) → j < i → get_or ns j 0 ≡ 0) → (get_or ns i 0 ≡ 0 → ⊥) → bad_field ns ≡ suc i
unfolding bad_field
bad_at [] i h z n = absurd (not-suc-le-zero h)
bad_at (zero ∷ ns) zero h z n = absurd (n refl)
bad_at (suc k ∷ ns) zero h z n = refl
bad_at (zero ∷ ns) (suc i) h z n = rw (bad_at ns i (le_of_suc-le-suc h) (λ j l. z (suc j) (omega arith)) n)
bad_at (suc k ∷ ns) (suc i) h z n = absurd (omega (arith, z 0 (omega arith)))

bad_none : (ns : List ℕ) → ((j : ℕ) → j < length ns → get_or ns j 0 ≡ 0) → bad_field ns ≡ 0
unfolding bad_field
bad_none [] z = refl
bad_none (zero ∷ ns) z = rw (bad_none ns (λ j l. z (suc j) (omega arith)))
bad_none (suc k ∷ ns) z = absurd (omega (arith, z 0 (omega arith)))

none_bad : (ns : List ℕ) → bad_field ns ≡ 0 → (j : ℕ) → get_or ns j 0 ≡ 0
unfolding bad_field
none_bad [] h j = refl
none_bad (zero ∷ ns) h zero = refl
none_bad (zero ∷ ns) h (suc j) = none_bad ns (later_zero _ h) j
none_bad (suc k ∷ ns) h j = absurd (omega arith)

-- The numbers of the places.

length_numbers : (ss ms : List ℤ) → length ms ≤ length ss → length (place_numbers ss ms) ≡ length ms
unfolding place_numbers
length_numbers ss [] h = refl
length_numbers [] (m ∷ ms) h = absurd (not-suc-le-zero h)
length_numbers (s ∷ ss) (m ∷ ms) h = ap suc (length_numbers ss ms (le_of_suc-le-suc h))

numbers_at : (ss ms : List ℤ) (i : ℕ) → i < length ss → i < length ms → get_or (place_numbers ss ms) i 0 ≡ size_at (get_or ss i (pos 0)) (get_or ms i (pos 0))
unfolding place_numbers
numbers_at [] ms i h l = absurd (not-suc-le-zero h)
numbers_at (s ∷ ss) [] i h l = absurd (not-suc-le-zero l)
numbers_at (s ∷ ss) (m ∷ ms) zero h l = refl
numbers_at (s ∷ ss) (m ∷ ms) (suc i) h l = numbers_at ss ms i (le_of_suc-le-suc h) (le_of_suc-le-suc l)

-- each is 0 or SIZE, so that the first bad one tells the number
later_same : (k : ℕ) → ◌≡◌ {A = ℕ} (cond (eqb k 0) 0 8) (cond (eqb (later k) 0) 0 8)
later_same zero = refl
later_same (suc k) = rw (ne_eqb (suc k) 0 (λ e. omega arith), ne_eqb (suc (suc k)) 0 (λ e. omega arith))

pub numbers_first : (ss ms : List ℤ) → first_of (place_numbers ss ms) ≡ cond (eqb (bad_field (place_numbers ss ms)) 0) 0 8
unfolding place_numbers first_of bad_field
numbers_first ss [] = refl
numbers_first [] (m ∷ ms) = refl
numbers_first (s ∷ ss) (m ∷ ms) =
    by_test (sum_fits s && sum_fits (s +ℤ m)) (λ e. rw e (numbers_first ss ms ∙ later_same (bad_field (place_numbers ss ms)))) (λ e. rw e)

-- Place by place.

-- the sum handed in lies within, and the sum that the value brings
abbrev pub fits_at : List ℤ → List ℤ → ℕ → Bool
fits_at ss ms k = sum_fits (get_or ss k (pos 0)) && sum_fits (get_or ss k (pos 0) +ℤ get_or ms k (pos 0))

bad_few : (ns : List ℕ) → bad_field ns ≤ length ns
unfolding bad_field
bad_few [] = omega arith
bad_few (zero ∷ ns) = omega (arith, bad_few ns, later_le (bad_field ns))
bad_few (suc n ∷ ns) = omega arith

pub place_is : (n k : ℕ) → before n ≡ Some k → n ≡ k + 1
place_is zero k h = cc
place_is (suc n) k h = let e : n ≡ k = cc in omega arith

pub no_place : (n : ℕ) → before n ≡ None → n ≡ 0
no_place zero h = refl
no_place (suc n) h = cc

module _ (ss ms : List ℤ) (few : length ms ≤ length ss) where
  abbrev each : List ℕ
  each = place_numbers ss ms

  each_length : length each ≡ length ms
  each_length = length_numbers ss ms few

  number_here : (i : ℕ) → i < length ms → get_or each i 0 ≡ size_at (get_or ss i (pos 0)) (get_or ms i (pos 0))
  number_here i l = numbers_at ss ms i (omega arith) l

  -- where none is refused every sum that the row brings fits
  pub sums_fit : bad_field each ≡ 0 → (k : ℕ) → k < length ms → sum_fits (get_or ss k (pos 0) +ℤ get_or ms k (pos 0)) ≡ true
  sums_fit h k l =
      let s = get_or ss k (pos 0) in
      (both (sum_fits s) (sum_fits (s +ℤ get_or ms k (pos 0))) (unless_zero _ 7 (sym (number_here k l) ∙ none_bad _ h k))).1

  fit_here : (k : ℕ) → k < length ms → fits_at ss ms k ≡ true → get_or each k 0 ≡ 0
  fit_here k l h = rw (number_here k l, h)

  -- a search for the first place where a sum doesn't fit, by what it found
  pub first_is : (o : Option ℕ) → ((k : ℕ) → o ≡ None → k < length ms → fits_at ss ms k ≡ true) → ((i : ℕ) → o ≡ Some i → (i < length ms) × (fits_at ss ms i ≡ false))
      → ((i k : ℕ) → o ≡ Some i → k < i → fits_at ss ms k ≡ true) → o ≡ first_bad each
  first_is None all here past = rw (bad_none each (λ j l. let q : j < length ms = omega (arith, each_length) in fit_here j q (all j refl q)))
  first_is (Some i) all here past =
      let h = here i refl in
      let n : get_or each i 0 ≡ 0 → ⊥ = λ e. let q : ◌≡◌ {A = ℕ} 8 0 = rw (number_here i h.0, h.1) at e in omega arith in
      rw (bad_at each i (omega (arith, each_length)) (λ j l. fit_here j (omega arith) (past i j refl l)) n)

  pub place_within : (i : ℕ) → first_bad each ≡ Some i → i < length ms
  place_within i h = omega (arith, bad_few each, each_length, place_is (bad_field each) i h)
