-- Where printing starts and what stands in the stretch: before printing starts a digit is 0 and no nine, a cell shows the digit of its position,
-- and the stretch of a drifting symbol holds that symbol's character, since where it begins no B stands. Assumes nothing.
use mathlib.Core.Path.{◌≡◌, refl, sym, ◌∙◌}
use mathlib.Core.Bool.{Bool, true, false, not, ◌&&◌, ◌||◌, true≢false}
use mathlib.Core.List.{List}
use mathlib.Core.Logic.{⊎_elim}
use Prim.Native.Nat.{ℕ, ◌<◌, ◌≤◌, min}
use native.Mathlib.Omega.{arith}
use borrow.Author.Tests.{leb-true, leb-false, ltb-true, eqb-true, le-leb, lt-ltb, eq-eqb, not-false, not-true}
use lib.Dec.{leb, eqb}
use Rattle.rules.specs.Search.{first}
use Rattle.rules.specs.Roles.{drifts, is_b, is_digit, is_first_drifting, is_nine, is_suppressible, opens}
use Rattle.rules.specs.Form.{Form, role_at, size}
use Rattle.rules.specs.Digits.{Digits}
use Rattle.rules.specs.Edit.{cell, cell_at, digit_at, drifts_to, first_shown, in_stretch, is_shown, mark, opening, printed, start}
use Rattle.rules.specs.Candidate.{digit_in}
use Rattle.rules.proofs.Search.{first_holds, first_le, first_least, first_mono, first_none, last_found}
use Rattle.rules.proofs.Characters.{digit_shows, hidden_shows, mark_shows}
use Rattle.rules.proofs.Logic.{both, lt_or_le, none_of, or_cases, side, splits, weaker}
use Rattle.rules.proofs.Sound.{Sound}

-- what opens the stretch is no B
opens_no_b : (r : ℕ) → opens r ≡ true → is_b r ≡ false
unfolding opens is_suppressible is_first_drifting is_b
opens_no_b r e = ⊎_elim (λ (q : eqb r 1 ≡ true). rw (eqb-true r 1 q)) (λ (q : eqb r 2 ≡ true). rw (eqb-true r 2 q)) (or_cases _ _ e)

module _ (φ : Form) (ds : List ℕ) where
  pub start_is : start φ ds ≡ min φ.vee (first_shown φ ds)
  unfolding start
  start_is =
      ⊎_elim
      (λ (e : leb φ.vee (first_shown φ ds) ≡ true). let l = leb-true φ.vee (first_shown φ ds) e in rw e (omega arith))
      (λ (e : leb φ.vee (first_shown φ ds) ≡ false). let l = leb-false φ.vee (first_shown φ ds) e in rw e (omega arith))
      (side (leb φ.vee (first_shown φ ds)))

  pub stretch_from : (k : ℕ) → in_stretch φ ds k ≡ true → opening φ ≤ k
  unfolding in_stretch
  stretch_from k e = leb-true _ _ (both (leb (opening φ) k) _ e).0

  pub stretch_to : (k : ℕ) → in_stretch φ ds k ≡ true → k < start φ ds
  unfolding in_stretch
  stretch_to k e = ltb-true _ _ (both (leb (opening φ) k) _ e).1

  pub stretch_in : (k : ℕ) → opening φ ≤ k → k < start φ ds → in_stretch φ ds k ≡ true
  unfolding in_stretch
  stretch_in k h l = rw (le-leb _ _ h, lt-ltb _ _ l)

  -- before printing starts, a digit is 0 and no nine
  pub early : (k : ℕ) → k < start φ ds → is_digit (role_at φ k) ≡ true → (digit_at φ ds k ≡ 0) × (is_nine (role_at φ k) ≡ false)
  unfolding is_shown first_shown
  early k h e =
      let l : k < first_shown φ ds = omega (arith, start_is) in
      let q = none_of (not (eqb (digit_at φ ds k) 0)) (is_nine (role_at φ k)) (leb φ.vee k) (rw e at (first_none _ _ k l)) in
      (eqb-true _ 0 (not-false _ q.0), q.1)

  -- at a digit's position a cell shows that digit
  pub cell_shows : Digits ds → (neg : Bool) (k : ℕ) → is_digit (role_at φ k) ≡ true → digit_in (cell_at φ ds neg k) ≡ digit_at φ ds k
  unfolding cell_at cell printed digit_at
  cell_shows ok neg k e =
      let here = drifts φ.kind && eqb k (drifts_to φ ds) in
      ⊎_elim
      (λ (i : in_stretch φ ds k ≡ true).
      let z = (early k (stretch_to k i) e).0 in
      rw i (⊎_elim (λ (q : here ≡ true). rw q (mark_shows _ neg (both (drifts φ.kind) _ q).0 ∙ sym z)) (λ (q : here ≡ false). rw q (hidden_shows _ _ ∙ sym z)) (side here)))
      (λ (i : in_stretch φ ds k ≡ false). rw (i, e) (digit_shows _ neg _ (ok _)))
      (side (in_stretch φ ds k))

  pub start_below : start φ ds ≤ size φ
  unfolding first_shown
  start_below = omega (arith, start_is, first_le (λ k. is_shown φ ds k) (size φ))

  -- The drifting character stands at no B, at position k or behind it, and before printing starts. So it does for each k before the start that is
  -- no B (`drifts_last`), and where the stretch begins no B stands (`drifts_in`).
  abbrev pub StandsFrom : ℕ → Type 0
  StandsFrom k = (is_b (role_at φ (drifts_to φ ds)) ≡ false) × (k ≤ drifts_to φ ds) × (drifts_to φ ds < start φ ds)

  pub drifts_last : (k : ℕ) → k < start φ ds → is_b (role_at φ k) ≡ false → StandsFrom k
  unfolding drifts_to
  drifts_last k l b = let w = last_found (λ j. not (is_b (role_at φ j))) (start φ ds) k l (rw b) in (not-true _ w.2, w.0, w.1)

  pub drifts_in : opening φ < start φ ds → StandsFrom (opening φ)
  unfolding opening
  drifts_in l = drifts_last (opening φ) l (opens_no_b _ (first_holds (λ k. opens (role_at φ k)) (size φ) (omega (arith, start_below))))

-- the first position that holds a nonzero digit or a nine
unfoldable pub counts : (φ : Form) → List ℕ → ℕ → Bool
counts φ ds k = is_digit (role_at φ k) && (not (eqb (digit_at φ ds k) 0) || is_nine (role_at φ k))

module _ (φ : Form) (ds : List ℕ) where
  -- with no look at what stands after V: V itself is the other end
  pub start_simple : start φ ds ≡ min φ.vee (first (λ k. counts φ ds k) (size φ))
  unfolding first_shown is_shown counts
  start_simple =
      let a = first_shown φ ds in
      let b = first (λ k. counts φ ds k) (size φ) in
      let up : a ≤ b = first_mono (λ k. is_shown φ ds k) (λ k. counts φ ds k) (size φ) (λ k l e. weaker (is_digit (role_at φ k)) _ _ e) in
      let down : min φ.vee b ≤ a =
      ⊎_elim
      (λ (l : a < size φ). ⊎_elim
      (λ (e : counts φ ds a ≡ true). let m = first_least (λ k. counts φ ds k) (size φ) a e in omega arith)
      (λ (e : leb φ.vee a ≡ true). let m = leb-true φ.vee a e in omega arith)
      (or_cases _ _ (splits (is_digit (role_at φ a)) _ _ (first_holds _ _ l))))
      (λ (l : size φ ≤ a). let m = first_le (λ k. counts φ ds k) (size φ) in omega arith)
      (lt_or_le a (size φ)) in
      omega (arith, start_is φ ds)

  module _ (s : Sound φ) (d : drifts φ.kind ≡ true) where
    -- the stretch of a drifting symbol is never empty
    pub stretch_some : opening φ < start φ ds
    unfolding first_shown is_shown
    stretch_some =
        let l : opening φ < first_shown φ ds =
        ⊎_elim
        (λ (l : opening φ < first_shown φ ds). l)
        (λ (l : first_shown φ ds ≤ opening φ). let b = (s.inside d).0 in let m : first_shown φ ds < size φ = omega arith in
        absurd (true≢false (sym (both (is_digit (role_at φ (first_shown φ ds))) _ (first_holds _ _ m)).0 ∙ s.before d (first_shown φ ds) l)))
        (lt_or_le (opening φ) (first_shown φ ds)) in
        omega (arith, start_is φ ds, (s.inside d).1)

    -- so its character has a place, in the stretch and at no B
    pub drifts_within : StandsFrom φ ds (opening φ)
    drifts_within = drifts_in φ ds stretch_some

    pub drifts_below : drifts_to φ ds < size φ
    drifts_below = omega (arith, drifts_within.2, start_below φ ds)

    pub drifts_cell : (neg : Bool) → cell_at φ ds neg (drifts_to φ ds) ≡ mark φ.kind neg
    unfolding cell_at cell
    drifts_cell neg = rw (stretch_in φ ds _ drifts_within.1 drifts_within.2, d, eq-eqb (drifts_to φ ds) (drifts_to φ ds) refl)
