-- RULES 8.8: what is said beside a listing. Assumes nothing.
use Rattle.std.specs.Prelude.{ℕ, zero, suc, ◌+◌, ◌-◌, ◌≡◌, Bool, false, not, cond, ◌&&◌, List, [], ◌∷◌, eqb, leb, length, get_or}
use Rattle.std.specs.Int.{from_bool}
use Prim.Native.Char.{code}
use Rattle.listing.specs.Program.{ListingLine}

-- another character than 0 stands first
unfoldable pub not_zero : List ℕ → Bool
not_zero [] = false
not_zero (c ∷ s) = not (eqb c (code "0"))

-- whether a line of a listing says a refusal: behind its first comma stands the answer's number (says_refusal
-- in proofs/Refusals.antt)
unfoldable pub refuses : List ℕ → Bool
refuses [] = false
refuses (c ∷ s) = cond (eqb c (code ",")) (not_zero s) (refuses s)

-- among the records 1 to k of an input so many are refused
abbrev pub RefusedAmong : List ℕ → ℕ → ℕ → Type 0
RefusedAmong s zero n = n ≡ 0
RefusedAmong s (suc k) n = (m : ℕ) × RefusedAmong s k m × ((text : List ℕ) × ListingLine s (suc k) text × (n ≡ m + from_bool (refuses text)))

-- whether this is the line's last byte
unfoldable pub ends_in : ℕ → List ℕ → Bool
ends_in b s = leb 1 (length s) && eqb (get_or s (length s - 1) 0) b

-- the line begins with the three bytes of a byte-order mark
unfoldable pub is_marked : List ℕ → Bool
is_marked s = leb 3 (length s) && eqb (get_or s 0 0) 239 && eqb (get_or s 1 0) 187 && eqb (get_or s 2 0) 191
