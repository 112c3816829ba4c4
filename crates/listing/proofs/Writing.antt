-- Texts written one behind the other are their joining written at once, and what is written first in lent
-- memory stands before what was there. Assumes nothing.
use mathlib.Core.Path.{◌≡◌, refl, sym, ◌∙◌, ap}
use mathlib.Core.List.{List, [], ◌∷◌, ◌++◌}
use Prim.Native.Nat.{ℕ, ◌+◌, ◌≤◌}
use native.Mathlib.Nat.{zero-add}
use native.Mathlib.Numerals.{add-one}
use native.Mathlib.Omega.{arith}
use lib.ListN.{length, set, drop, length-append}
use lib.Seq.{length-sets, sets-eq}
use Rattle.rules.proofs.Lists.{sets_append}
use Rattle.copying.specs.Copy.{copied}
use Rattle.copying.proofs.Copies.{copied_in}
use Rattle.listing.specs.Put.{written, Puts}

pub put_none : (out : List ℕ) (at : ℕ) → Puts [] out at out at
unfolding written
put_none out at = record { memory = refl; behind = omega arith }

pub put_join : {xs ys out mid after : List ℕ} {at p q : ℕ} → Puts xs out at mid p → Puts ys mid p after q → Puts (xs ++ ys) out at after q
unfolding written
put_join {xs = xs} {ys = ys} {out = out} {mid = mid} {at = at} {p = p} f g =
    record {
      memory = g.memory ∙ rw (f.memory, f.behind) (sym (sets_append xs ys out at));
      behind = omega (arith, f.behind, g.behind, length-append xs ys);
    }

pub put_cons : {x at p : ℕ} {text out after : List ℕ} → Puts text (set out at x) (at + 1) after p → Puts (x ∷ text) out at after p
unfolding written
put_cons {at = at} f = record { memory = rw (← add-one at) f.memory; behind = omega (arith, f.behind) }

pub put_length : {text out after : List ℕ} {at p : ℕ} → Puts text out at after p → length after ≡ length out
unfolding written
put_length {text = text} {out = out} {at = at} f = ap length f.memory ∙ length-sets out at text

-- what is left behind a text of at most m characters
pub put_room : {text out after : List ℕ} {at p : ℕ} (m n : ℕ) → Puts text out at after p → length text ≤ m → at + m + n ≤ length out → p + n ≤ length after
put_room {text = text} m n f l h = omega (arith, f.behind, put_length f)

-- from the first place on
pub put_first : {text out after : List ℕ} {p : ℕ} → length text ≤ length out → Puts text out 0 after p → (p ≡ length text) × (after ≡ text ++ drop (length text) out)
unfolding written
put_first {text = text} {out = out} h f =
    let e : 0 + length text ≡ length text = zero-add (length text) in
    (f.behind ∙ e, f.memory ∙ rw e at (sets-eq text out 0 (rw e h)))

-- a text that is copied where it has room
pub put_copied : (text out after : List ℕ) (at : ℕ) → at + length text ≤ length out → after ≡ copied text at out → Puts text out at after (at + length text)
unfolding written
put_copied text out after at h e = record { memory = e ∙ copied_in text out at h; behind = refl }
