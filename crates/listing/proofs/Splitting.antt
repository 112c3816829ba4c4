-- The lines of an input, one after the other: what stands up to the next LF is a line, and the lines behind
-- it are those of what follows; where no LF is left, what is left is the last line unless it is empty.
-- Assumes nothing.
use mathlib.Core.Path.{◌≡◌, refl, sym, ◌∙◌, ap}
use mathlib.Core.Bool.{true, false}
use mathlib.Core.List.{List, [], ◌∷◌, ◌++◌, append_assoc, append-nil}
use Prim.Native.Nat.{ℕ, suc, ◌+◌, ◌-◌, ◌≤◌, ◌<◌, min}
use Prim.Native.Char.{code}
use native.Mathlib.Nat.{add-zero, min-eq_left, min-eq_right}
use native.Mathlib.Omega.{arith}
use lib.Dec.{eqb, ltb, leb}
use lib.ListN.{length, get_or, take, drop, length-drop, drop_of_length-le}
use lib.Seq.{drop-cons, drop-drop, take_all, get_or-drop}
use borrow.Author.Tests.{ltb-true, ltb-false, leb-true, leb-false}
use Rattle.std.specs.Prelude.{◌==◌, position, nat_lt, Option, Some, None}
use Rattle.std.specs.List.{position_or_len}
use Rattle.std.specs.Option.{unwrap_or, MatchOption}
use denote.Ref.{Bor}
use Rattle.rules.specs.Lister.{lines_from}
use Rattle.rules.proofs.Logic.{by_test}
use Rattle.listing.specs.Lines.{to_end}
use Rattle.listing.specs.Program.{lines_in, layout_in, Begins}

to_end_le : (s : List ℕ) → to_end s ≤ length s
unfolding to_end
to_end_le [] = omega arith
to_end_le (b ∷ s) = let h = to_end_le s in by_test (eqb b (code "\n")) (λ e. rw e (omega arith)) (λ e. rw e (omega arith))

-- The end by the first LF, where there is one, and behind all bytes.

to_end_is : (s : List ℕ) → to_end s ≡ position_or_len (λ b. b == 10) s
unfolding to_end
to_end_is [] = refl
to_end_is (b ∷ s) = by_test (eqb b (code "\n")) (λ e. rw e refl) (λ e. rw (e, to_end_is s) (omega arith))

pub end_first : (s : List ℕ) → unwrap_or (position (λ b. b == 10) s) (length s) ≡ to_end s
end_first s =
    let p = position_or_len (λ b. b == 10) s in
    let e = to_end_is s in
    by_test (nat_lt p (length s)) (λ t. rw (e, t) refl) (λ t. rw (e, t) (omega (arith, ltb-false p (length s) t, to_end_le s)))

pub end_past : (s : List ℕ) (from : ℕ) → length s ≤ from → from ≡ from + to_end (drop from s)
unfolding to_end
end_past s from l = rw (drop_of_length-le s l) (omega arith)

-- the end lies in the input
line_inside : (s : List ℕ) (from end : ℕ) → from ≤ length s → end ≡ from + to_end (drop from s) → (from ≤ end) × (end ≤ length s)
line_inside s from end h e = let k = simp length-drop at (to_end_le (drop from s)) in (omega arith, omega arith)

-- Byte by byte.
module _ (b : ℕ) (s sofar : List ℕ) where
  end_now : eqb b (code "\n") ≡ true → (to_end (b ∷ s) ≡ 0) × (lines_from sofar (b ∷ s) ≡ sofar ∷ lines_from [] s)
  unfolding to_end lines_from
  end_now e = rw e (refl, refl)

  end_more : eqb b (code "\n") ≡ false → (to_end (b ∷ s) ≡ suc (to_end s)) × (lines_from sofar (b ∷ s) ≡ lines_from (sofar ++ (b ∷ [])) s)
  unfolding to_end lines_from
  end_more e = rw e (refl, refl)

found : (sofar s : List ℕ) → to_end s < length s → lines_from sofar s ≡ (sofar ++ take (to_end s) s) ∷ lines_from [] (drop (suc (to_end s)) s)
found sofar [] h = absurd (omega arith)
found sofar (b ∷ s) h =
    by_test (eqb b (code "\n"))
    (λ e. let w = end_now b s sofar e in rw (w.1, w.0, append-nil))
    (λ e.
    let w = end_more b s sofar e in
    rw (w.1, w.0) (found (sofar ++ (b ∷ [])) s (omega (arith, w.0)) ∙ rw (append_assoc sofar (b ∷ []) (take (to_end s) s))))

none : (sofar s : List ℕ) → length s ≤ to_end s → lines_from sofar s ≡ lines_from (sofar ++ s) []
none sofar [] h = rw append-nil
none sofar (b ∷ s) h =
    by_test (eqb b (code "\n"))
    (λ e. let w = end_now b s sofar e in absurd (omega (arith, w.0)))
    (λ e.
    let w = end_more b s sofar e in
    rw w.1 (none (sofar ++ (b ∷ [])) s (omega (arith, w.0)) ∙ rw (append_assoc sofar (b ∷ []) s)))

-- a last line that isn't empty
alone : (s : List ℕ) → 1 ≤ length s → lines_from s [] ≡ s ∷ []
unfolding lines_from
alone [] h = absurd (omega arith)
alone (b ∷ s) h = refl

-- The line that begins at `from`, with a LF ahead, and without.
module _ (s : List ℕ) (from end : ℕ) (e : end ≡ from + to_end (drop from s)) where
  line_found : end < length s → lines_from [] (drop from s) ≡ take (end - from) (drop from s) ∷ lines_from [] (drop (end + 1) s)
  line_found h =
      let n : end - from ≡ to_end (drop from s) = omega arith in
      let m : end + 1 ≡ from + suc (to_end (drop from s)) = omega arith in
      rw (n, m, ← drop-drop (suc (to_end (drop from s))) from s) (found [] (drop from s) (simp length-drop (omega arith)))

  line_none : length s ≤ end → lines_from [] (drop from s) ≡ lines_from (drop from s) []
  line_none h = none [] (drop from s) (simp length-drop (omega arith))

  -- either way
  line_next : from < length s → lines_from [] (drop from s) ≡ take (end - from) (drop from s) ∷ lines_from [] (drop (end + 1) s)
  unfolding lines_from
  line_next h =
      by_test (ltb end (length s)) (λ t. line_found (ltb-true end (length s) t))
      (λ t.
      let l = ltb-false end (length s) t in
      let whole = take_all (end - from) (drop from s) (simp length-drop (omega arith)) in
      line_none l ∙ alone (drop from s) (simp length-drop (omega arith)) ∙ rw (whole, drop_of_length-le s {i = end + 1} (omega arith)))

-- what stands from byte `at` to byte `end` is line k, and line k + 1 begins behind it
pub record LineAt (s : List ℕ) (k at end : ℕ) : Type 0 where
  pub inside : end ≤ length s
  pub there : k < length (lines_in s)
  pub is : get_or (lines_in s) k [] ≡ take (end - at) (drop at s)
  pub next : Begins s (k + 1) (end + 1)

pub line_at : (s : List ℕ) (k at end : ℕ) → Begins s k at → at < length s → end ≡ at + to_end (drop at s) → LineAt s k at end
line_at s k at end b h e =
    let ls = lines_in s in
    let here : drop k ls ≡ take (end - at) (drop at s) ∷ lines_in (drop (end + 1) s) = sym b ∙ line_next s at end e h in
    record {
      inside = (line_inside s at end (omega arith) e).1;
      there = omega (arith, length-drop k ls, ap length here);
      is = rw (add-zero k) at (sym (get_or-drop k ls 0 [])) ∙ rw here;
      next = rw here at (drop-drop 1 k ls);
    }

-- What stands up to byte `end` is the layout line, with nothing in it where the input is empty, and line 1
-- begins behind it.
pub record LayoutAt (s : List ℕ) (end : ℕ) : Type 0 where
  pub inside : end ≤ length s
  pub is : take end s ≡ layout_in s
  pub next : Begins s 1 (end + 1)

pub layout_at : (s : List ℕ) (end : ℕ) → end ≡ 0 + to_end (drop 0 s) → LayoutAt s end
unfolding lines_from to_end
layout_at [] end e = record { inside = omega arith; is = rw e; next = rw e }
layout_at (b ∷ s) end e =
    let w = line_at (b ∷ s) 0 0 end refl (omega arith) e in
    let n : end - 0 ≡ end = omega arith in
    record { inside = w.inside; is = rw n at (sym w.is); next = w.next }

-- at the input's end no line is left
pub none_left : (s : List ℕ) (k at : ℕ) → Begins s k at → length s ≤ at → k ≤ length (lines_in s) → k ≡ length (lines_in s)
unfolding lines_from
none_left s k at b h l = omega (arith, length-drop k (lines_in s), ap length (rw (drop_of_length-le s h) at b))

-- A walk's next line, and what it has still to give: line 0 of what is left, which begins at its first byte.
pub walk_inside : (s : List ℕ) (end : ℕ) → end ≡ 0 + to_end (drop 0 s) → end ≤ length s
walk_inside s end e = (line_inside s 0 end (omega arith) e).1

pub walk_next : (s : List ℕ) (end : ℕ) → 1 ≤ length s → end ≡ 0 + to_end (drop 0 s)
    → lines_in s ≡ take end s ∷ lines_in (drop (min (length s) (end + 1)) s)
walk_next s end l e =
    let n : end - 0 ≡ end = omega arith in
    let at = line_at s 0 0 end refl (omega arith) e in
    let w : lines_in s ≡ take end s ∷ lines_in (drop (end + 1) s) = drop-cons (lines_in s) 0 [] at.there ∙ rw (at.is, at.next, n) refl in
    by_test (leb (end + 1) (length s))
    (λ t. rw (min-eq_right (leb-true (end + 1) (length s) t)) w)
    (λ t.
    let h = leb-false (end + 1) (length s) t in
    let q : length s ≤ end + 1 = omega arith in
    let d : drop (length s) s ≡ drop (end + 1) s = drop_of_length-le s {i = length s} (omega arith) ∙ sym (drop_of_length-le s {i = end + 1} q) in
    rw (min-eq_left q, d) w)

no_line : (ls : List (List ℕ)) → 0 ≡ length ls → ls ≡ []
no_line [] e = refl
no_line (l ∷ ls) e = absurd (omega arith)

pub walk_last : (s : List ℕ) → length s ≤ 0 → lines_in s ≡ []
walk_last s l = no_line (lines_in s) (none_left s 0 0 refl l (omega arith))

-- The walk's first line is the layout's, and an input without one has no other.
pub layout_first : (s : List ℕ) (r : Option (Bor (List ℕ))) (d x : Bor (List ℕ)) (left : List (List ℕ)) → x ≡ unwrap_or r d → d.now ≡ []
    → MatchOption r ((lines_in s ≡ []) × (left ≡ [])) (λ y. lines_in s ≡ y.now ∷ left)
    → (x.now ≡ layout_in s) × (left ≡ drop 1 (lines_in s))
layout_first s None d x left e z m = (ap (λ (y : Bor (List ℕ)). y.now) e ∙ z ∙ rw m.0, m.1 ∙ rw m.0)
layout_first s (Some y) d x left e z m = (ap (λ (v : Bor (List ℕ)). v.now) e ∙ rw m, rw m)

-- The layout line ends at the first end.
pub layout_ends : (s x : List ℕ) → x ≡ layout_in s → x ≡ take (to_end s) s
layout_ends s x e = e ∙ sym (layout_at s (to_end s) (omega arith)).is

-- The next of the lines that are left is line k, and line k + 1 is the first of the others.
pub record NextLine (ls : List (List ℕ)) (k : ℕ) (line : List ℕ) (left : List (List ℕ)) : Type 0 where
  pub there : k < length ls
  pub is : get_or ls k [] ≡ line
  pub next : left ≡ drop (k + 1) ls

pub next_line : (ls : List (List ℕ)) (k : ℕ) (line : List ℕ) (left : List (List ℕ)) → drop k ls ≡ line ∷ left → NextLine ls k line left
next_line ls k line left e =
    record {
      there = omega (arith, length-drop k ls, ap length e);
      is = rw (add-zero k) at (sym (get_or-drop k ls 0 [])) ∙ rw e;
      next = rw e at (drop-drop 1 k ls);
    }

-- no input has more lines than bytes, but for one
lines_most : (sofar s : List ℕ) → length (lines_from sofar s) ≤ suc (length s)
unfolding lines_from
lines_most [] [] = omega arith
lines_most (c ∷ sofar) [] = omega arith
lines_most sofar (b ∷ s) =
    by_test (eqb b (code "\n"))
    (λ e. rw e (omega (arith, lines_most [] s)))
    (λ e. rw e (omega (arith, lines_most (sofar ++ (b ∷ [])) s)))

pub lines_few : (s : List ℕ) → length (lines_in s) ≤ suc (length s)
lines_few s = lines_most [] s

-- where no line is left
pub none_behind : (ls : List (List ℕ)) (k : ℕ) → [] ≡ drop k ls → k ≤ length ls → k ≡ length ls
none_behind ls k e l = omega (arith, length-drop k ls, ap length e)
