-- What is left of a text is a mark: by its length and its two letters. Assumes nothing.
use mathlib.Core.Path.{◌≡◌, refl, sym, ◌∙◌}
use mathlib.Core.Bool.{true, false, true≢false, and-true, and-false, or-false}
use mathlib.Core.List.{List, [], ◌∷◌}
use Prim.Native.Nat.{ℕ, suc, ◌+◌, ◌-◌, ◌<◌}
use Prim.Native.Char.{code}
use native.Mathlib.Numerals.{add-one}
use native.Mathlib.Omega.{arith}
use borrow.Author.Tests.{eqb-true, eqb-false, ne_eqb}
use lib.Dec.{eqb}
use lib.ListN.{length, get_or, drop, length-drop, drop_of_length-le}
use lib.Seq.{drop-cons}
use Rattle.rules.specs.Words.{same}
use Rattle.rules.specs.Text.{is_mark}
use Rattle.rules.proofs.Logic.{by_test}

other_length : (s : List ℕ) → (length s ≡ 2 → ⊥) → false ≡ is_mark s
unfolding same
other_length [] n = refl
other_length (a ∷ []) n = simp and-false
other_length (a ∷ b ∷ []) n = absurd (n refl)
other_length (a ∷ b ∷ d ∷ s) n = simp and-false

pub not_two : (t : List ℕ) (i : ℕ) → (length t - i ≡ 2 → ⊥) → false ≡ is_mark (drop i t)
not_two t i n = other_length (drop i t) (λ e. n (sym (length-drop i t) ∙ e))

pub two_left : (t : List ℕ) (i : ℕ) → length t - i ≡ 2 → drop i t ≡ get_or t i 0 ∷ get_or t (i + 1) 0 ∷ []
two_left t i e =
    let a : i < length t = omega arith in
    let b : suc i < length t = omega arith in
    rw (drop-cons t i 0 a, drop-cons t (suc i) 0 b, drop_of_length-le t {i = suc (suc i)} (omega arith), add-one)

module _ (t : List ℕ) (i : ℕ) (e : length t - i ≡ 2) where
  pub credit : get_or t i 0 ≡ code "C" → eqb (get_or t (i + 1) 0) (code "R") ≡ is_mark (drop i t)
  unfolding same
  credit q = rw (two_left t i e, q) (sym (or-false _ ∙ and-true _))

  pub debit : (get_or t i 0 ≡ code "C" → ⊥) → get_or t i 0 ≡ code "D" → eqb (get_or t (i + 1) 0) (code "B") ≡ is_mark (drop i t)
  unfolding same
  debit n q = rw (two_left t i e, q) (sym (and-true _))

  pub neither : (get_or t i 0 ≡ code "C" → ⊥) → (get_or t i 0 ≡ code "D" → ⊥) → false ≡ is_mark (drop i t)
  unfolding same
  neither n m = rw (two_left t i e, ne_eqb (get_or t i 0) (code "C") n, ne_eqb (get_or t i 0) (code "D") m)

-- a mark is two bytes
pub mark_length : (t : List ℕ) (i : ℕ) → is_mark (drop i t) ≡ true → length t - i ≡ 2
mark_length t i e =
    by_test (eqb (length t - i) 2) (λ q. eqb-true _ 2 q) (λ q. absurd (true≢false (sym e ∙ sym (not_two t i (eqb-false _ 2 q)))))
