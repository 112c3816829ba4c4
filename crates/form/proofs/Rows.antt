-- Positions that are placed one after the other make the form of their numbers. Assumes nothing.
use Prim.Native.Nat.{ℕ, suc, ◌+◌, ◌-◌, ◌<◌, ◌≤◌}
use Prim.Native.Char.{code}
use mathlib.Core.Path.{◌≡◌, ap, ◌∙◌}
use mathlib.Core.Bool.{Bool, true, false, ◌||◌}
use mathlib.Core.List.{List, [], ◌∷◌, ◌++◌, append_assoc, append-nil}
use native.Mathlib.Numerals.{add-one}
use native.Mathlib.Omega.{arith}
use borrow.Author.Tests.{eqb-true, eq-eqb, ne_eqb}
use lib.Dec.{eqb, leb}
use lib.ListN.{length, get_or, drop, length-append, drop_of_length-le}
use lib.Seq.{drop-cons, set-append_seam}
use Rattle.rules.specs.Words.{same, place}
use Rattle.rules.specs.Text.{the_v, is_mark}
use Rattle.rules.specs.Form.{formed, number, numbers, of_kind, roles_from, kind_of, form_of}
use Rattle.rules.proofs.Logic.{by_test, by_or, both}
use Rattle.rules.proofs.Lists.{same_eq}
use Rattle.rules.proofs.Marks.{mark_length}
use Rattle.rules.proofs.Spelling.{numbers_v, numbers_other}
use Rattle.form.specs.declared.Meaning.{Meaning}
use Rattle.form.specs.declared.Placed.{Placed}
use Rattle.form.specs.Rooms.{begun, role_of, placed_in, finished, meaning_of, mark_number}

-- one position more in the rooms of a form
one_more : (rs : List ℕ) (k vee c : ℕ) (met : Bool) → length rs < 64
    → placed_in (record { form = meaning_of (formed rs vee k); met = met }) c ≡ record { form = meaning_of (formed (rs ++ (role_of k met c ∷ [])) vee k); met = met || of_kind k c }
unfolding placed_in meaning_of
one_more rs k vee c met h =
    let e : 64 - length rs ≡ suc (64 - (length rs + 1)) = omega arith in
    rw (e, length-append, set-append_seam, append_assoc)

all_placed : (cs : List ℕ) (k vee : ℕ) (met : Bool) (rs : List ℕ) → length rs + length cs ≤ 64
    → finished (record { form = meaning_of (formed rs vee k); met = met }) cs ≡ meaning_of (formed (rs ++ roles_from k met cs) vee k)
unfolding finished roles_from role_of
all_placed [] k vee met rs h = rw append-nil
all_placed (c ∷ cs) k vee met rs h =
    let r = role_of k met c in
    let rest = all_placed cs k vee (met || of_kind k c) (rs ++ (r ∷ [])) (rw length-append (omega arith)) in
    rw (one_more rs k vee c met (omega arith)) (rest ∙ ap (λ (xs : List ℕ). meaning_of (formed xs vee k)) (append_assoc rs (r ∷ []) _))

numbers_le : (s : List ℕ) → length (numbers s) ≤ length s
unfolding numbers
numbers_le [] = omega arith
numbers_le (b ∷ s) =
    let n = numbers_le s in
    by_test (is_mark (b ∷ s))
    (λ e. let two = mark_length (b ∷ s) 0 e in rw e (by_test (eqb b (code "C")) (λ q. rw q (omega arith)) (λ q. rw q (omega arith))))
    (λ e. rw e (by_test (eqb b the_v) (λ v. rw v (omega arith)) (λ v. rw v (omega arith))))

pub placed_form : (s : List ℕ) (vee k : ℕ) → length s ≤ 64 → vee ≡ place the_v s → k ≡ kind_of (numbers s) → finished (begun vee k) (numbers s) ≡ meaning_of (form_of s)
unfolding begun form_of
placed_form s vee k h v e =
    let n = numbers_le s in
    rw (v, e) (all_placed (numbers s) (kind_of (numbers s)) (place the_v s) (leb (kind_of (numbers s)) 2) [] (omega arith))

-- the turns of the walk over the symbols s
module _ (s : List ℕ) (p : Placed) (i : ℕ) (goal : Meaning) (h : finished p (numbers (drop i s)) ≡ goal) where
  pub left_none : length s ≤ i → p.form ≡ goal
  unfolding numbers finished
  left_none l = rw (drop_of_length-le s l) at h

  module _ (l : i < length s) where
    abbrev b : ℕ
    b = get_or s i 0

    left : drop i s ≡ b ∷ drop (i + 1) s
    left = rw (add-one, drop-cons s i 0 l)

    -- V is no position
    pub left_v : is_mark (drop i s) ≡ false → get_or s i 0 ≡ the_v → finished p (numbers (drop (i + 1) s)) ≡ goal
    left_v m e = rw (left, numbers_v b (drop (i + 1) s) (rw left at m) (eq-eqb b the_v e)) at h

    pub left_symbol : is_mark (drop i s) ≡ false → (get_or s i 0 ≡ the_v → ⊥) → finished (placed_in p (number (get_or s i 0))) (numbers (drop (i + 1) s)) ≡ goal
    unfolding finished
    left_symbol m e = rw (left, numbers_other b (drop (i + 1) s) (rw left at m) (ne_eqb b the_v e)) at h

    -- a mark's two letters end the picture
    mark_numbers : is_mark (drop i s) ≡ true → numbers (drop i s) ≡ mark_number (get_or s i 0) ∷ (mark_number (get_or s i 0) + 1) ∷ []
    unfolding numbers same mark_number
    mark_numbers m =
        let t = drop (i + 1) s in
        rw left (by_or _ _ (rw left at m)
        (λ q. let w = both _ _ q in rw (eqb-true b (code "C") w.0, same_eq t (code "R" ∷ []) w.1))
        (λ q. let w = both _ _ q in rw (eqb-true b (code "D") w.0, same_eq t (code "B" ∷ []) w.1)))

    pub left_mark : is_mark (drop i s) ≡ true → (placed_in (placed_in p (mark_number (get_or s i 0))) (mark_number (get_or s i 0) + 1)).form ≡ goal
    unfolding finished
    left_mark m = rw (mark_numbers m) at h
