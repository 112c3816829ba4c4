-- A number as decimal digits, the first the most significant, and back. Assumes nothing.
use Rattle.std.specs.Prelude.{List, [], ◌∷◌, ℕ, zero, suc, ◌+◌, ◌*◌, ◌/◌, ◌%◌, ◌^◌, ◌<◌, length, get_or}

-- the last d digits of t, zeros in front
unfoldable pub digits_of : ℕ → ℕ → List ℕ
digits_of zero t = []
digits_of (suc d) t = t / 10 ^ d % 10 ∷ digits_of d t

-- the number that the digits spell
unfoldable pub value_of : List ℕ → ℕ
value_of [] = 0
value_of (x ∷ xs) = x * 10 ^ length xs + value_of xs

-- each is a digit
abbrev pub Digits : List ℕ → Type 0
Digits ds = (k : ℕ) → get_or ds k 0 < 10
