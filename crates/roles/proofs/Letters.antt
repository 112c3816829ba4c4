-- Two letters that are a mark, and what is none. Assumes nothing.
use mathlib.Core.Path.{◌≡◌, refl}
use mathlib.Core.Bool.{true, false, ◌&&◌, and-false}
use mathlib.Core.List.{List, [], ◌∷◌}
use Prim.Native.Nat.{ℕ}
use native.Mathlib.Omega.{arith}
use borrow.Author.Tests.{eqb-true, ne_eqb}
use lib.Dec.{eqb}
use lib.ListN.{length, get_or}
use Rattle.rules.specs.Words.{same}
use Rattle.rules.specs.Text.{is_mark}
use Rattle.rules.proofs.Logic.{by_test}

pub credit_letters : (s : List ℕ) → length s ≡ 2 → get_or s 0 0 ≡ 67 → get_or s 1 0 ≡ 82 → true ≡ is_mark s
unfolding same
credit_letters [] n a b = absurd (omega arith)
credit_letters (x ∷ []) n a b = absurd (omega arith)
credit_letters (x ∷ y ∷ []) n a b = rw (a, b) refl
credit_letters (x ∷ y ∷ z ∷ s) n a b = absurd (omega arith)

pub debit_letters : (s : List ℕ) → length s ≡ 2 → get_or s 0 0 ≡ 68 → get_or s 1 0 ≡ 66 → true ≡ is_mark s
unfolding same
debit_letters [] n a b = absurd (omega arith)
debit_letters (x ∷ []) n a b = absurd (omega arith)
debit_letters (x ∷ y ∷ []) n a b = rw (a, b) refl
debit_letters (x ∷ y ∷ z ∷ s) n a b = absurd (omega arith)

no_two : (x y a b : ℕ) → (x ≡ a → y ≡ b → ⊥) → (eqb x a && (eqb y b && true)) ≡ false
no_two x y a b h =
    by_test (eqb x a)
    (λ e. rw (ne_eqb y b (λ q. h (eqb-true x a e) q)) (and-false (eqb x a)))
    (λ e. rw e)

pub no_letters : (s : List ℕ) → (get_or s 0 0 ≡ 67 → get_or s 1 0 ≡ 82 → ⊥) → (get_or s 0 0 ≡ 68 → get_or s 1 0 ≡ 66 → ⊥) → false ≡ is_mark s
unfolding same
no_letters [] h g = refl
no_letters (x ∷ []) h g = simp and-false refl
no_letters (x ∷ y ∷ []) h g = rw (no_two x y 67 82 h, no_two x y 68 66 g) refl
no_letters (x ∷ y ∷ z ∷ s) h g = simp and-false refl

pub no_length : (s : List ℕ) → (length s ≡ 2 → ⊥) → false ≡ is_mark s
unfolding same
no_length [] n = refl
no_length (x ∷ []) n = simp and-false refl
no_length (x ∷ y ∷ []) n = absurd (n refl)
no_length (x ∷ y ∷ z ∷ s) n = simp and-false refl
