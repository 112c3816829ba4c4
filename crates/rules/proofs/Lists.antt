-- What stands in a list: facts found by computing over a finite list or the numbers below n, and `any`, `count`, `place` and `same` by
-- places, and parts written one behind the other. Assumes nothing.
use Prim.Native.Nat.{ℕ, zero, suc, ◌+◌, ◌<◌, ◌≤◌}
use mathlib.Core.Path.{◌≡◌, refl, sym, ap, ◌∙◌}
use mathlib.Core.Bool.{Bool, true, false, true≢false, ◌&&◌, or-true}
use mathlib.Core.List.{List, [], ◌∷◌, ◌++◌}
use native.Mathlib.Nat.{add-zero, zero-add, not-suc-le-zero, le_of_suc-le-suc}
use native.Mathlib.Omega.{arith}
use borrow.Author.Tests.{eqb-true, eqb-false, eq-eqb}
use lib.Dec.{eqb}
use lib.ListN.{length, get_or, take, drop, set}
use lib.Seq.{sets, sets-eq}
use Rattle.rules.specs.Words.{any, count, has, place, same}
use Rattle.rules.proofs.Logic.{both, by_test, neither}

-- what holds below n by computing
unfoldable pub all_below : ℕ → (ℕ → Bool) → Bool
all_below zero p = true
all_below (suc n) p = p n && all_below n p

pub all_below_lem : (n : ℕ) (p : ℕ → Bool) → all_below n p ≡ true → (k : ℕ) → k < n → p k ≡ true
unfolding all_below
all_below_lem zero p h k l = absurd (omega arith)
all_below_lem (suc n) p h k l =
    let w = both (p n) (all_below n p) h in
    by_test (eqb k n) (λ e. rw (eqb-true k n e) w.0) (λ e. let q : k ≡ n → ⊥ = eqb-false k n e in all_below_lem n p w.1 k (omega arith))

-- what holds of each member of a list by computing
unfoldable pub all : (ℕ → Bool) → List ℕ → Bool
all p [] = true
all p (y ∷ ys) = p y && all p ys

pub members : (p : ℕ → Bool) (l : List ℕ) → all p l ≡ true → (x : ℕ) → has x l ≡ true → p x ≡ true
unfolding all has
members p [] a x h = absurd (true≢false (sym h))
members p (y ∷ ys) a x h =
    let w = both (p y) (all p ys) a in
    by_test (eqb x y) (λ e. rw (eqb-true x y e) w.0) (λ e. members p ys w.1 x (rw e at h))

pub member_at : (p : ℕ → Bool) (l : List ℕ) → all p l ≡ true → p 0 ≡ true → (i : ℕ) → p (get_or l i 0) ≡ true
unfolding all
member_at p [] a z i = z
member_at p (y ∷ ys) a z zero = (both (p y) (all p ys) a).0
member_at p (y ∷ ys) a z (suc i) = member_at p ys (both (p y) (all p ys) a).1 z i

pub same_eq : (a b : List ℕ) → same a b ≡ true → a ≡ b
unfolding same
same_eq [] [] h = refl
same_eq [] (y ∷ ys) h = absurd (true≢false (sym h))
same_eq (x ∷ xs) [] h = absurd (true≢false (sym h))
same_eq (x ∷ xs) (y ∷ ys) h =
    let w = both (eqb x y) (same xs ys) h in
    rw (eqb-true x y w.0, same_eq xs ys w.1)

pub same_refl : (a : List ℕ) → same a a ≡ true
unfolding same
same_refl [] = refl
same_refl (x ∷ xs) = rw (eq-eqb x x refl, same_refl xs)

pub eq_same : (a b : List ℕ) → a ≡ b → same a b ≡ true
eq_same a b e = rw e (same_refl b)

-- a place in a list holds what was looked for, and what stands in the list has one
pub place_holds : (x : ℕ) (l : List ℕ) → place x l < length l → get_or l (place x l) 0 ≡ x
unfolding place
place_holds x [] h = absurd (omega arith)
place_holds x (y ∷ ys) h =
    by_test (eqb x y) (λ e. rw e (sym (eqb-true x y e))) (λ e. let z : suc (place x ys) < suc (length ys) = rw e at h in rw e (place_holds x ys (omega arith)))

has_lies : (x : ℕ) (l : List ℕ) → has x l ≡ true → place x l < length l
unfolding has place
has_lies x [] h = absurd (true≢false (sym h))
has_lies x (y ∷ ys) h = by_test (eqb x y) (λ e. rw e (omega arith)) (λ e. let w = has_lies x ys (rw e at h) in rw e (omega arith))

pub has_place : (x : ℕ) (l : List ℕ) → has x l ≡ true → (place x l < length l) × (get_or l (place x l) 0 ≡ x)
has_place x l h = let w = has_lies x l h in (w, place_holds x l w)

-- one part written behind the other is both written at once
pub sets_append : (xs ys l : List ℕ) (i : ℕ) → sets l i (xs ++ ys) ≡ sets (sets l i xs) (i + length xs) ys
sets_append [] ys l i = rw add-zero
sets_append (x ∷ xs) ys l i =
    let e : suc i + length xs ≡ i + suc (length xs) = omega arith in
    sets_append xs ys (set l i x) (suc i) ∙ ap (λ (n : ℕ). sets (sets (set l i x) (suc i) xs) n ys) e

-- what is written from the first place on stands before what was there
pub sets_front : (xs l : List ℕ) → length xs ≤ length l → sets l 0 xs ≡ xs ++ drop (length xs) l
sets_front xs l h = let e : 0 + length xs ≡ length xs = zero-add (length xs) in rw e at (sets-eq xs l 0 (rw e h))

module _ (p : ℕ → Bool) where
  -- no member has p: not the one at k
  pub any_none : (rs : List ℕ) → any p rs ≡ false → (k : ℕ) → k < length rs → p (get_or rs k 0) ≡ false
  unfolding any
  any_none [] h k l = absurd (not-suc-le-zero l)
  any_none (r ∷ rs) h zero l = (neither (p r) (any p rs) h).0
  any_none (r ∷ rs) h (suc k) l = any_none rs (neither (p r) (any p rs) h).1 k (le_of_suc-le-suc l)

  -- the member at k has p, and v stand before it at the most
  pub any_behind : (v k : ℕ) (rs : List ℕ) → v ≤ k → k < length rs → p (get_or rs k 0) ≡ true → any p (drop v rs) ≡ true
  unfolding any
  any_behind v k [] h l e = absurd (not-suc-le-zero l)
  any_behind zero zero (r ∷ rs) h l e = rw e
  any_behind zero (suc k) (r ∷ rs) h l e = rw (any_behind zero k rs (omega arith) (le_of_suc-le-suc l) e) (or-true (p r))
  any_behind (suc v) zero (r ∷ rs) h l e = absurd (not-suc-le-zero h)
  any_behind (suc v) (suc k) (r ∷ rs) h l e = any_behind v k rs (le_of_suc-le-suc h) (le_of_suc-le-suc l) e

  pub count_le : (rs : List ℕ) → count p rs ≤ length rs
  unfolding count
  count_le [] = omega arith
  count_le (r ∷ rs) = let i = count_le rs in by_test (p r) (λ e. rw e (omega arith)) (λ e. rw e (omega arith))

  -- those of the first k and those behind
  pub count_split : (k : ℕ) (rs : List ℕ) → count p (take k rs) + count p (drop k rs) ≡ count p rs
  unfolding count
  count_split zero rs = omega arith
  count_split (suc k) [] = omega arith
  count_split (suc k) (r ∷ rs) = let i = count_split k rs in by_test (p r) (λ e. rw e (omega arith)) (λ e. rw e (omega arith))
