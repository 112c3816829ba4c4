-- Text written into lent memory from a place on, and a line as its words and what ends it. Assumes nothing.
use Rattle.std.specs.Prelude.{ℕ, ◌+◌, ◌≡◌, List, [], ◌∷◌, ◌++◌, length}
use Prim.Native.Char.{code}
use Rattle.std.proofs.lemmas.List.Edits.{sets}
use Rattle.rules.specs.Lister.{decimal}

-- lent memory with the text in it from a place on
unfoldable pub written : List ℕ → ℕ → List ℕ → List ℕ
written out at text = sets out at text

-- the text has been written from `at` on, and `place` is the place behind it
pub record Puts (text out : List ℕ) (at : ℕ) (after : List ℕ) (place : ℕ) : Type 0 where
  pub memory : after ≡ written out at text
  pub behind : place ≡ at + length text

-- words with a comma before each
unfoldable pub behind : List (List ℕ) → List ℕ
behind [] = []
behind (w ∷ ws) = code "," ∷ w ++ behind ws

-- a line's own number, then the answer's number and field
unfoldable pub head_of : ℕ → ℕ → ℕ → List ℕ
head_of k number field = decimal k ++ behind (decimal number ∷ decimal field ∷ [])

abbrev pub end : List ℕ
end = code "\n" ∷ []
