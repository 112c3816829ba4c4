-- Beyond RULES: the powers of ten that the code has in a table, made by their rule, from 1 to the first magnitude that is out of range. That place k holds 10^k
-- is `power_at` in proofs/Powers.antt. Assumes nothing.
use Rattle.std.specs.Prelude.{ℕ, zero, suc, ◌^◌, List, [], ◌∷◌}
use Rattle.rules.specs.Shape.{most_digits}

-- f 0, f 1 and so on, n of them
abbrev pub table : (ℕ → ℕ) → ℕ → List ℕ
table f zero = []
table f (suc n) = f zero ∷ table (λ k. f (suc k)) n

abbrev pub powers : List ℕ
powers = table (λ k. 10 ^ k) (suc most_digits)
