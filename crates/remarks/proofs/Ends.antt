-- What a line's last byte and its first three tell. Assumes nothing.
use mathlib.Core.Path.{◌≡◌, refl, sym}
use mathlib.Core.Bool.{Bool, true, false, not, ◌&&◌}
use mathlib.Core.List.{List, [], ◌∷◌}
use Prim.Native.Nat.{ℕ, suc, ◌-◌, ◌<◌, ◌≤◌}
use native.Mathlib.Omega.{arith}
use lib.Dec.{eqb}
use lib.ListN.{length, get_or, drop_of_length-le}
use lib.Seq.{drop-cons}
use borrow.Author.Tests.{eqb-true, eqb-false, ne_eqb, le-leb}
use Rattle.std.specs.List.{starts_with, ends_with}
use Rattle.rules.proofs.Logic.{by_test}
use Rattle.remarks.specs.Remarks.{not_zero, ends_in, is_marked}

eqb_flip : (a b : ℕ) → eqb a b ≡ eqb b a
eqb_flip a b = by_test (eqb b a) (λ e. rw (eqb-true b a e)) (λ e. rw (e, ne_eqb a b (λ h. eqb-false b a e (sym h))))

and_true : (a : Bool) → (a && true) ≡ a
and_true true = refl
and_true false = refl

and_false : (a : Bool) → (a && false) ≡ false
and_false true = refl
and_false false = refl

and_three : (a b c : Bool) → (a && (b && c)) ≡ (true && a && b && c)
and_three true b c = refl
and_three false b c = refl

pub ends_is : (b : ℕ) (s : List ℕ) → ends_with eqb s (b ∷ []) ≡ ends_in b s
unfolding ends_in
ends_is b [] = refl
ends_is b (c ∷ s) =
    let t = c ∷ s in
    let l : length t - 1 < length t = omega arith in
    let e = drop_of_length-le t {i = suc (length t - 1)} (omega arith) in
    rw (le-leb 1 (length t) (omega arith), drop-cons t (length t - 1) 0 l, e, and_true, eqb_flip b)

pub mark_is : (s : List ℕ) → starts_with eqb s (239 ∷ 187 ∷ 191 ∷ []) ≡ is_marked s
unfolding is_marked
mark_is [] = refl
mark_is (x ∷ []) = and_false _
mark_is (x ∷ y ∷ []) = rw (and_false (eqb 187 y)) (and_false _)
mark_is (x ∷ y ∷ z ∷ s) =
    rw (le-leb 3 (length (x ∷ y ∷ z ∷ s)) (omega arith), and_true (eqb 191 z), eqb_flip 239 x, eqb_flip 187 y, eqb_flip 191 z)
    (and_three (eqb x 239) (eqb y 187) (eqb z 191))

-- the byte that stands first
pub first_is : (s : List ℕ) → 1 ≤ length s → not (eqb (get_or s 0 0) 48) ≡ not_zero s
unfolding not_zero
first_is [] l = absurd (omega arith)
first_is (c ∷ s) l = refl

pub no_first : (s : List ℕ) → length s ≤ 0 → false ≡ not_zero s
unfolding not_zero
no_first [] l = refl
no_first (c ∷ s) l = absurd (omega arith)
