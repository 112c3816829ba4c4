-- The first comma, and what the byte behind it tells. Assumes nothing.
use mathlib.Core.Path.{◌≡◌, refl, sym}
use mathlib.Core.Bool.{false}
use mathlib.Core.List.{List, [], ◌∷◌}
use Prim.Native.Nat.{ℕ, suc, ◌+◌}
use Prim.Native.Char.{code}
use native.Mathlib.Numerals.{add-one}
use native.Mathlib.Omega.{arith}
use lib.Dec.{eqb}
use lib.ListN.{length, drop, drop_of_length-le}
use borrow.Author.Tests.{ltb-false}
use Rattle.std.specs.Prelude.{◌==◌, position, nat_lt, Some, None}
use Rattle.std.specs.List.{position_or_len}
use Rattle.rules.proofs.Logic.{by_test}
use Rattle.remarks.specs.Remarks.{not_zero, refuses}

-- by the place of the first comma
refuses_is : (s : List ℕ) → refuses s ≡ not_zero (drop (suc (position_or_len (λ b. b == 44) s)) s)
unfolding refuses not_zero
refuses_is [] = refl
refuses_is (c ∷ s) =
    let q : 1 + position_or_len (λ b. b == 44) s ≡ suc (position_or_len (λ b. b == 44) s) = omega arith in
    by_test (eqb c (code ",")) (λ e. rw e refl) (λ e. rw (e, q, refuses_is s) refl)

module _ (s : List ℕ) where
  pub behind : (k : ℕ) → Some k ≡ position (λ b. b == 44) s → not_zero (drop (k + 1) s) ≡ refuses s
  behind k h =
      let p = position_or_len (λ b. b == 44) s in
      by_test (nat_lt p (length s))
      (λ t. let e : k ≡ p = (let f = rw t at h in cc) in rw (add-one k, e) (sym (refuses_is s)))
      (λ t. absurd (let f = rw t at h in cc))

  pub no_comma : None ≡ position (λ b. b == 44) s → false ≡ refuses s
  unfolding not_zero
  no_comma h =
      let p = position_or_len (λ b. b == 44) s in
      by_test (nat_lt p (length s))
      (λ t. absurd (let f = rw t at h in cc))
      (λ t. rw (refuses_is s, drop_of_length-le s {i = suc p} (omega (arith, ltb-false p (length s) t))))
