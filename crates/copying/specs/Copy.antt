-- A part copied into lent bytes at a place, over all inputs. Assumes nothing.
use Rattle.std.specs.Prelude.{cond, List, ℕ, ◌+◌, leb, length}
use Rattle.std.proofs.lemmas.List.Edits.{sets}

-- nothing is written where the part does not fit
unfoldable pub copied : List ℕ → ℕ → List ℕ → List ℕ
copied part at out = cond (leb (at + length part) (length out)) (sets out at part) out
