-- Where `position` finds, as the first place of a kind, and in a part of the roles. Assumes nothing.
use mathlib.Core.Path.{◌≡◌, refl, sym, ◌∙◌}
use mathlib.Core.Bool.{Bool, true, false, cond, not, true≢false}
use mathlib.Core.List.{List, [], ◌∷◌}
use mathlib.Core.Logic.{⊎_elim}
use Prim.Native.Nat.{ℕ, suc, ◌+◌, ◌-◌, ◌<◌, ◌≤◌}
use native.Mathlib.Omega.{arith}
use borrow.Author.Tests.{ltb-false}
use lib.Dec.{ltb}
use lib.ListN.{length, get_or, take, drop}
use Rattle.std.specs.List.{position_or_len}
use Rattle.std.specs.Option.{unwrap_or}
use Rattle.std.specs.Prelude.{Option, Some, None}
use Rattle.std.proofs.lemmas.List.{get_or-drop, get_or-take, length-drop, length-take-le}
use Rattle.rules.specs.Search.{first}
use Rattle.rules.proofs.Logic.{by_test, lt_or_le}
use Rattle.rules.proofs.Search.{first_holds, first_le, first_least, first_mono, first_none}

here_or_later : (b : Bool) (n m : ℕ) → n ≡ m → cond (not b) (1 + n) 0 ≡ cond b 0 (suc m)
here_or_later true n m e = refl
here_or_later false n m e = rw e (omega arith)

module _ (p : ℕ → Bool) where
  -- in a list
  pub place_first : (rs : List ℕ) → position_or_len p rs ≡ first (λ k. p (get_or rs k 0)) (length rs)
  unfolding first
  place_first [] = refl
  place_first (r ∷ rs) = here_or_later (p r) _ _ (place_first rs)

  -- what a search comes to that ends at the end where nothing is found
  pub found_first : (rs : List ℕ) (o : Option ℕ) → o ≡ cond (ltb (position_or_len p rs) (length rs)) (Some (position_or_len p rs)) None
      → unwrap_or o (length rs) ≡ first (λ k. p (get_or rs k 0)) (length rs)
  found_first rs o e =
      let n = position_or_len p rs in
      let q : n ≡ first (λ k. p (get_or rs k 0)) (length rs) = place_first rs in
      by_test (ltb n (length rs))
      (λ t. rw (e, t) q)
      (λ t. let l = ltb-false n (length rs) t in rw (e, t) (omega (arith, first_le (λ k. p (get_or rs k 0)) (length rs))))

  module _ (rs : List ℕ) where
    abbrev here : ℕ → Bool
    here k = p (get_or rs k 0)

    -- in the first n
    pub first_take : (n : ℕ) → n ≤ length rs → first (λ k. p (get_or (take n rs) k 0)) (length (take n rs)) ≡ first here n
    first_take n h =
        let q : ℕ → Bool = λ k. p (get_or (take n rs) k 0) in
        let a = first_mono q here n (λ k l e. rw (get_or-take n rs k 0 l) e) in
        let b = first_mono here q n (λ k l e. rw (get_or-take n rs k 0 l) at e) in
        rw (length-take-le n rs h) (omega (arith, a, b))

    -- from place a on, where it does not stand before
    pub first_drop : (a : ℕ) → a ≤ length rs → a ≤ first here (length rs) → a + first (λ k. p (get_or (drop a rs) k 0)) (length (drop a rs)) ≡ first here (length rs)
    first_drop a h l =
        let q : ℕ → Bool = λ k. p (get_or (drop a rs) k 0) in
        let n = length (drop a rs) in
        let m : n ≡ length rs - a = length-drop a rs in
        let over : first here (length rs) < a + first q n → ⊥ =
        λ z. let i = first here (length rs) - a in
        let t : a + i ≡ first here (length rs) = omega arith in
        let x : here (a + i) ≡ true = rw t (first_holds here (length rs) (omega (arith, first_le q n))) in
        let y : q i ≡ false = first_none q n i (omega arith) in
        true≢false (sym x ∙ rw (← get_or-drop a rs i 0) y) in
        let under : first here (length rs) ≤ a + first q n =
        ⊎_elim
        (λ (z : first q n < n). first_least here (length rs) (a + first q n) (rw (get_or-drop a rs (first q n) 0) at (first_holds q n z)))
        (λ (z : n ≤ first q n). omega (arith, first_le here (length rs)))
        (lt_or_le (first q n) n) in
        omega arith
