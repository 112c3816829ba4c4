-- Laws of `first`, `last` and `up_to`. Assumes nothing.
use mathlib.Core.Path.{◌≡◌, refl, sym, ◌∙◌, ap}
use mathlib.Core.Bool.{Bool, true, false, cond, not, true≢false}
use mathlib.Core.List.{List, [], ◌∷◌}
use mathlib.Core.Logic.{⊎_elim}
use Prim.Native.Nat.{ℕ, zero, suc, ◌+◌, ◌<◌, ◌≤◌}
use native.Mathlib.Nat.{not-suc-le-zero, le_of_suc-le-suc, eq-or-lt_of_le}
use native.Mathlib.Numerals.{add-one}
use native.Mathlib.Omega.{arith}
use borrow.Author.Tests.{eqb-true, not-false}
use lib.ListN.{length, get_or, length-append, get_or-append}
use lib.Seq.{get_or_at}
use Rattle.rules.specs.Words.{any}
use Rattle.rules.specs.Search.{each, first, last, up_to}
use Rattle.rules.proofs.Logic.{by_test, lt_or_le}

pub first_le : (p : ℕ → Bool) (n : ℕ) → first p n ≤ n
unfolding first
first_le p zero = omega arith
first_le p (suc n) =
    let ih = first_le (λ k. p (suc k)) n in
    elim (p zero) as (λ b. cond b zero (suc (first (λ k. p (suc k)) n)) ≤ suc n) [ true ↦ omega arith | false ↦ omega arith ]

-- nothing below it
pub first_none : (p : ℕ → Bool) (n k : ℕ) → k < first p n → p k ≡ false
unfolding first
first_none p zero k h = absurd (not-suc-le-zero h)
first_none p (suc n) zero h =
    let go : zero < first p (suc n) → p zero ≡ false = elim (p zero) as (λ b. zero < cond b zero (suc (first (λ k. p (suc k)) n)) → b ≡ false) [ true ↦ λ h. absurd (not-suc-le-zero h) | false ↦ λ h. refl ] in
    go h
first_none p (suc n) (suc k) h =
    let ih = first_none (λ k. p (suc k)) n k in
    let go : suc k < first p (suc n) → p (suc k) ≡ false = elim (p zero) as (λ b. suc k < cond b zero (suc (first (λ k. p (suc k)) n)) → p (suc k) ≡ false) [ true ↦ λ h. absurd (not-suc-le-zero h) | false ↦ λ h. ih (le_of_suc-le-suc h) ] in
    go h

-- it holds there
pub first_holds : (p : ℕ → Bool) (n : ℕ) → first p n < n → p (first p n) ≡ true
unfolding first
first_holds p zero h = absurd (not-suc-le-zero h)
first_holds p (suc n) h =
    let m = first (λ k. p (suc k)) n in
    let ih = first_holds (λ k. p (suc k)) n in
    let go : p zero ≡ p zero → first p (suc n) < suc n → p (first p (suc n)) ≡ true = elim (p zero) as (λ b. p zero ≡ b → cond b zero (suc m) < suc n → p (cond b zero (suc m)) ≡ true) [ true ↦ λ e h. e | false ↦ λ e h. ih (le_of_suc-le-suc h) ] in
    go refl h

-- the loop that looks for it, with the invariant `i ≤ first p n`
pub first_more : (p : ℕ → Bool) (n i : ℕ) → i ≤ first p n → i < n → p i ≡ false → i + 1 ≤ first p n
first_more p n i h l e =
    ⊎_elim
    (λ (q : i ≡ first p n). absurd (true≢false (sym (first_holds p n (rw (← q) l)) ∙ ap p (sym q) ∙ e)))
    (λ (q : i < first p n). omega arith)
    (eq-or-lt_of_le h)

-- and the least with it
pub first_least : (p : ℕ → Bool) (n k : ℕ) → p k ≡ true → first p n ≤ k
first_least p n k e = ⊎_elim (λ (l : k < first p n). absurd (true≢false (sym e ∙ first_none p n k l))) (λ (l : first p n ≤ k). l) (lt_or_le k (first p n))

pub first_here : (p : ℕ → Bool) (n i : ℕ) → i ≤ first p n → p i ≡ true → first p n ≡ i
first_here p n i h e = let l = first_least p n i e in omega arith

-- a weaker test is met no later
pub first_mono : (p q : ℕ → Bool) (n : ℕ) → ((k : ℕ) → k < n → q k ≡ true → p k ≡ true) → first p n ≤ first q n
first_mono p q n h =
    ⊎_elim
    (λ (l : first q n < n). first_least p n (first q n) (h (first q n) l (first_holds q n l)))
    (λ (l : n ≤ first q n). let m = first_le p n in omega arith)
    (lt_or_le (first q n) n)

-- A place with p below n: the last one is no further left, is itself below n and has p.
module _ (p : ℕ → Bool) where
  pub last_found : (n k : ℕ) → k < n → p k ≡ true → (k ≤ last p n) × (last p n < n) × (p (last p n) ≡ true)
  unfolding last
  last_found zero k h e = absurd (not-suc-le-zero h)
  last_found (suc n) k h e =
      by_test (p n)
      (λ q. rw q (omega arith, omega arith, q))
      (λ q.
      let l : k < n = ⊎_elim (λ (z : k ≡ n). absurd (true≢false (sym e ∙ ap p z ∙ q))) (λ (z : k < n). z) (eq-or-lt_of_le (le_of_suc-le-suc h)) in
      let ih = last_found n k l e in
      rw q (ih.0, omega arith, ih.2))

  -- where it isn't 0 there is one
  pub last_holds : (n : ℕ) → 0 < last p n → p (last p n) ≡ true
  unfolding last
  last_holds zero h = absurd (not-suc-le-zero h)
  last_holds (suc n) h = by_test (p n) (λ q. rw q q) (λ q. let l : 0 < last p n = rw q at h in rw q (last_holds n l))

pub each_at : (p : ℕ → Bool) (n k : ℕ) → each p n ≡ true → k < n → p k ≡ true
unfolding each
each_at p n k e h = not-false (p k) (first_none (λ j. not (p j)) n k (rw (eqb-true (first (λ j. not (p j)) n) n e) h))

-- some member of a list has p: the first place with it lies in the list
pub any_first : (p : ℕ → Bool) (rs : List ℕ) → any p rs ≡ true → first (λ k. p (get_or rs k 0)) (length rs) < length rs
unfolding any first
any_first p [] h = absurd (true≢false (sym h))
any_first p (r ∷ rs) h =
    by_test (p r) (λ e. rw e (omega arith)) (λ e. let i = any_first p rs (rw e at h) in rw e (omega arith))

module _ (f : ℕ → ℕ) where
  pub length_up_to : (n : ℕ) → length (up_to n f) ≡ n
  unfolding up_to
  length_up_to zero = refl
  length_up_to (suc n) = rw (length-append, length_up_to n, add-one)

  pub get_d_up_to : (n i : ℕ) → i < n → get_or (up_to n f) i 0 ≡ f i
  unfolding up_to
  get_d_up_to zero i h = absurd (not-suc-le-zero h)
  get_d_up_to (suc n) i h =
      ⊎_elim
      (λ e. rw e (get_or_at (up_to n f) (f n) [] 0 n (length_up_to n)))
      (λ l. let k : i < length (up_to n f) = rw (length_up_to n) l in get_or-append (up_to n f) _ 0 i k ∙ get_d_up_to n i l)
      (eq-or-lt_of_le (le_of_suc-le-suc h))

-- two rules that agree below n give one list
pub up_to_same : (f g : ℕ → ℕ) (n : ℕ) → ((k : ℕ) → k < n → f k ≡ g k) → up_to n f ≡ up_to n g
unfolding up_to
up_to_same f g zero h = refl
up_to_same f g (suc n) h = rw (up_to_same f g n (λ k l. h k (omega arith)), h n (omega arith))
