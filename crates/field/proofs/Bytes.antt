-- Characters f 0, f 1, .. set into lent bytes from a place on, one by one from either end. From the right,
-- those still to come set into what is there give the whole, so that each store is final. Assumes nothing.
use mathlib.Core.Path.{◌≡◌, refl, sym, ◌∙◌}
use mathlib.Core.List.{List, [], ◌∷◌}
use Prim.Native.Nat.{ℕ, suc, ◌+◌, ◌-◌, ◌<◌, ◌≤◌}
use native.Mathlib.Nat.{zero-add}
use native.Mathlib.Numerals.{add-one}
use native.Mathlib.Omega.{arith}
use borrow.Rule.Slice.PartMut.{put_mid}
use lib.ListN.{length, set, drop_of_length-le}
use lib.Seq.{sets, sets-eq, set_comm}
use Rattle.std.proofs.Common.{append_assoc}
use Rattle.std.proofs.lemmas.List.{append-nil, drop-drop}
use Rattle.rules.specs.Search.{up_to}
use Rattle.rules.proofs.Lists.{sets_append, sets_front}
use Rattle.rules.proofs.Search.{length_up_to}

-- a byte behind them may be set before or after
sets_set : (l : List ℕ) (at : ℕ) (xs : List ℕ) (i x : ℕ) → at + length xs ≤ i → sets (set l i x) at xs ≡ set (sets l at xs) i x
sets_set l at [] i x h = refl
sets_set l at (y ∷ ys) i x h = rw (set_comm l i at x y (λ e. omega arith)) (sets_set (set l at y) (suc at) ys i x (omega arith))

module _ (f : ℕ → ℕ) where
  -- one more at the end
  pub sets_more : (l : List ℕ) (at k : ℕ) → sets l at (up_to (k + 1) f) ≡ set (sets l at (up_to k f)) (at + k) (f k)
  unfolding up_to
  sets_more l at k = rw (add-one k, sets_append (up_to k f) (f k ∷ []) l at, length_up_to f k)

  -- as a loop from the first place on comes to it
  pub sets_next : (l : List ℕ) (k : ℕ) (out : List ℕ) (v : ℕ) → out ≡ sets l 0 (up_to k f) → v ≡ f k → set out k v ≡ sets l 0 (up_to (k + 1) f)
  sets_next l k out v e q = let m = rw zero-add at (sets_more l 0 k) in rw (e, q) (sym m)

  -- one less to come: k is the place behind it
  pub sets_less : (out : List ℕ) (at k : ℕ) {whole : List ℕ} (v : ℕ) → 0 < k → v ≡ f (k - 1) → sets out at (up_to k f) ≡ whole → sets (set out (at + (k - 1)) v) at (up_to (k - 1) f) ≡ whole
  sets_less out at k v h q e =
      let n : k ≡ k - 1 + 1 = omega arith in
      sets_set out at (up_to (k - 1) f) (at + (k - 1)) v (rw (length_up_to f (k - 1)) (omega arith))
      ∙ rw (q, ← sets_more out at (k - 1), ← n) e

  -- and from the first place on
  pub sets_back : (out : List ℕ) (k : ℕ) {whole : List ℕ} (v : ℕ) → 0 < k → v ≡ f (k - 1) → sets out 0 (up_to k f) ≡ whole → sets (set out (k - 1) v) 0 (up_to (k - 1) f) ≡ whole
  sets_back out k v h q e = let m = sets_less out 0 k v h q e in rw zero-add at m

-- all of them written
pub sets_all : (l xs : List ℕ) → length xs ≡ length l → sets l 0 xs ≡ xs
sets_all l xs e =
    let h : length l ≤ length xs = omega arith in
    sets_front xs l (omega arith) ∙ rw (drop_of_length-le l h) (append-nil xs)

-- and all of a part
pub part_sets : (l xs : List ℕ) (at k : ℕ) → length xs ≡ k → at + k ≤ length l → put_mid at k l xs ≡ sets l at xs
part_sets l xs at k e h =
    let n : at + length xs ≤ length l = omega arith in
    rw (sets-eq xs l at n, e, ← append_assoc, drop-drop) refl
