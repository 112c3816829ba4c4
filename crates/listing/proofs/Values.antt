-- A row's first values, a comma before each, and one more behind them. Assumes nothing.
use mathlib.Core.Path.{◌≡◌, refl}
use mathlib.Core.List.{List, [], ◌∷◌, ◌++◌, map, append_assoc}
use Prim.Native.Nat.{ℕ, ◌+◌, ◌*◌, ◌≤◌, ◌<◌}
use native.Mathlib.Numerals.{add-one}
use native.Mathlib.Omega.{arith}
use lib.IntN.{ℤ, pos}
use lib.ListN.{length, get_or, take, length-append}
use lib.Seq.{take-suc, take_all, length-take-le}
use Rattle.rules.specs.Lister.{signed_decimal}
use Rattle.listing.specs.Put.{Puts, behind}
use Rattle.listing.proofs.Numerals.{signed_le}
use Rattle.listing.proofs.Writing.{put_join, put_length}

abbrev pub texts : List ℤ → List ℕ
texts zs = behind (map signed_decimal zs)

pub values_le : (zs : List ℤ) → length (texts zs) ≤ 22 * length zs
unfolding behind
values_le [] = omega arith
values_le (z ∷ zs) = rw (length-append (signed_decimal z) (texts zs)) (omega (arith, signed_le z, values_le zs))

texts_append : (ys zs : List ℤ) → texts (ys ++ zs) ≡ texts ys ++ texts zs
unfolding behind
texts_append [] zs = refl
texts_append (y ∷ ys) zs = rw (texts_append ys zs, append_assoc (signed_decimal y))

module _ (row : List ℤ) {out₀ out : List ℕ} {at place i : ℕ} (f : Puts (texts (take i row)) out₀ at out place) where
  -- what is left of the room
  pub values_room : i < length row → at + 22 * length row ≤ length out₀ → place + 22 ≤ length out
  values_room l h =
      let n : length (take i row) ≡ i = length-take-le i row (omega arith) in
      omega (arith, f.behind, put_length f, values_le (take i row))

  pub values_more : {out' : List ℕ} {place' : ℕ} → i < length row → Puts (texts (get_or row i (pos 0) ∷ [])) out place out' place'
      → Puts (texts (take (i + 1) row)) out₀ at out' place'
  values_more l g = rw (add-one i, take-suc row i (pos 0) l, texts_append (take i row)) (put_join f g)

  pub values_all : length row ≤ i → Puts (texts row) out₀ at out place
  values_all l = rw (take_all i row l) at f
