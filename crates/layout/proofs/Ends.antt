-- A layout is cut at each `;`: at the first one its first picture ends, and where there is none there is no
-- picture. Assumes nothing.
use Prim.Native.Nat.{ℕ, suc, ◌+◌, ◌-◌, ◌<◌, ◌≤◌}
use Prim.Native.Char.{code}
use mathlib.Core.Path.{◌≡◌, refl, sym, ap, ◌∙◌}
use mathlib.Core.Bool.{Bool, false, and-true, and-false}
use mathlib.Core.List.{List, [], ◌∷◌, ◌++◌}
use native.Mathlib.Omega.{arith}
use borrow.Author.Tests.{ltb-true, ltb-false, lt-leb}
use lib.Dec.{eqb, ltb}
use lib.ListN.{length, take, drop, length-drop}
use lib.Seq.{take_all}
use Rattle.std.proofs.Common.{append_assoc, append-nil}
use Rattle.std.specs.Prelude.{Some, None, position}
use Rattle.std.specs.List.{position_or_len}
use Rattle.std.specs.Cmp.Lexicographic.{pointwise}
use Rattle.rules.specs.Layout.{closes, count_fits, cut, most_layout, pictures}
use Rattle.layout.specs.Ends.{ends}
use Rattle.rules.proofs.Logic.{by_test, eqb_swap}

-- the place of the first `;`, or the length
abbrev end : List ℕ → ℕ
end s = position_or_len ends s

cut_at : (sofar s : List ℕ) → end s < length s → cut sofar s ≡ (sofar ++ take (end s) s) ∷ cut [] (drop (end s + 1) s)
unfolding cut
cut_at sofar [] h = absurd (omega arith)
cut_at sofar (b ∷ s) h =
    by_test (ends b)
    (λ e. rw e (ap (λ (x : List ℕ). x ∷ cut [] s) (sym (append-nil sofar))))
    (λ e. rw e (
    let n : 1 + end s ≡ suc (end s) = omega arith in
    let m : suc (end s) + 1 ≡ suc (end s + 1) = omega arith in
    rw (n, m) (cut_at (sofar ++ (b ∷ [])) s (omega (arith, rw e at h)) ∙ rw (append_assoc sofar (b ∷ []) (take (end s) s)) refl)))

cut_none : (sofar s : List ℕ) → length s ≤ end s → cut sofar s ≡ []
unfolding cut
cut_none sofar [] h = refl
cut_none sofar (b ∷ s) h =
    by_test (ends b)
    (λ e. absurd (omega (arith, rw e at h)))
    (λ e. rw e (cut_none (sofar ++ (b ∷ [])) s (omega (arith, rw e at h))))

-- at the first `;` the first picture ends; where there is none, there is no picture
pub picture_ends : (l : List ℕ) (i : ℕ) → Some i ≡ position ends l → pictures l ≡ take i l ∷ pictures (take (length l - (i + 1)) (drop (i + 1) l))
picture_ends l i e =
    by_test (ltb (end l) (length l))
    (λ b. let q : Some i ≡ Some (end l) = rw b at e in
    let f : i ≡ end l = cc in
    rw (f, take_all (length l - (end l + 1)) (drop (end l + 1) l) (simp length-drop (omega arith))) (cut_at [] l (ltb-true _ _ b)))
    (λ b. let q : Some i ≡ None = rw b at e in cc)

pub fewer_left : (l : List ℕ) (i : ℕ) → Some i ≡ position ends l → length (pictures (take (length l - (i + 1)) (drop (i + 1) l))) < length (pictures l)
fewer_left l i e = rw (picture_ends l i e) (omega arith)

pub no_picture : (l : List ℕ) → None ≡ position ends l → pictures l ≡ []
no_picture l e =
    by_test (ltb (end l) (length l))
    (λ b. let q : None ≡ Some (end l) = rw b at e in cc)
    (λ b. cut_none [] l (ltb-false _ _ b))

pub cut_le : (sofar s : List ℕ) → length (cut sofar s) ≤ length s
unfolding cut
cut_le sofar [] = omega arith
cut_le sofar (b ∷ s) =
    by_test (eqb b (code ";"))
    (λ e. rw e (omega (arith, cut_le [] s)))
    (λ e. rw e (omega (arith, cut_le (sofar ++ (b ∷ [])) s)))

last_is : (now : Bool) (b : ℕ) (s : List ℕ) → pointwise eqb (code ";" ∷ []) (drop (length s) (b ∷ s)) ≡ closes now (b ∷ s)
unfolding closes
last_is now b [] = rw (eqb_swap (code ";") b) (and-true _)
last_is now b (c ∷ s) = last_is (eqb b (code ";")) c s

-- the last byte is the one by which a layout ends
pub closed_is : (l : List ℕ) → pointwise eqb (code ";" ∷ []) (drop (length l - 1) l) ≡ closes false l
unfolding closes
closed_is [] = refl
closed_is (b ∷ s) = let e : length (b ∷ s) - 1 ≡ length s = omega arith in rw e (last_is false b s)

pub too_long : (l : List ℕ) → most_layout < length l → false ≡ count_fits l
unfolding count_fits
too_long l a = rw (lt-leb (length l) most_layout a) (sym (and-false (closes false l)))
