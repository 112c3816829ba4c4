-- Places: the first of a kind and the last, and a list made place by place. Places count from 0. Assumes nothing.
use Rattle.std.specs.Prelude.{Bool, cond, not, List, [], ◌∷◌, ◌++◌, ℕ, zero, suc, eqb}

-- the first place below n with p; n if there is none
unfoldable pub first : (ℕ → Bool) → ℕ → ℕ
first p zero = zero
first p (suc n) = cond (p zero) zero (suc (first (λ k. p (suc k)) n))

-- the last place below n with p; 0 if there is none
unfoldable pub last : (ℕ → Bool) → ℕ → ℕ
last p zero = zero
last p (suc n) = cond (p n) n (last p n)

-- p holds of every place below n
unfoldable pub each : (ℕ → Bool) → ℕ → Bool
each p n = eqb (first (λ k. not (p k)) n) n

-- f 0, f 1, .. and so on, n of them
unfoldable pub up_to : ℕ → (ℕ → ℕ) → List ℕ
up_to zero f = []
up_to (suc n) f = up_to n f ++ (f n ∷ [])
