-- A line is its first word, the others with a comma before each, and the end. Assumes nothing.
use mathlib.Core.Path.{◌≡◌, refl}
use mathlib.Core.List.{List, [], ◌∷◌, ◌++◌, append_assoc, append-nil}
use Prim.Native.Nat.{ℕ, ◌≤◌}
use Prim.Native.Char.{code}
use native.Mathlib.Omega.{arith}
use lib.ListN.{length}
use Rattle.rules.specs.Lister.{decimal, line}
use Rattle.listing.specs.Put.{behind, end}
use Rattle.listing.proofs.Numerals.{decimal_le}

pub next_is : (w : List ℕ) → behind (w ∷ []) ≡ code "," ∷ w
unfolding behind
next_is w = rw (append-nil w)

pub next_le : (n : ℕ) → length (behind (decimal n ∷ [])) ≤ 21
next_le n = rw next_is (omega (arith, decimal_le n))

pub behind_cons : (w : List ℕ) (ws : List (List ℕ)) → behind (w ∷ ws) ≡ behind (w ∷ []) ++ behind ws
unfolding behind
behind_cons w ws = rw (append-nil w)

pub line_is : (w : List ℕ) (ws : List (List ℕ)) → line (w ∷ ws) ≡ w ++ (behind ws ++ end)
unfolding line behind
line_is w [] = refl
line_is w (v ∷ ws) = rw (line_is v ws, append_assoc v (behind ws) end)
