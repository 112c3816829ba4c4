-- The ways out of reading are the cases of its definition. Assumes nothing.
use mathlib.Core.Path.{◌≡◌, sym}
use mathlib.Core.Bool.{true, false, and-false}
use mathlib.Core.List.{List}
use mathlib.Core.Option.{none, some}
use Prim.Native.Nat.{ℕ, ◌<◌, ◌≤◌}
use borrow.Author.Tests.{eq-eqb, eqb-false, eqb-true, le-leb, le-ltb, lt-leb, lt-ltb, ne_eqb}
use native.Mathlib.Omega.{arith}
use lib.Dec.{eqb, leb, ltb}
use lib.ListN.{length}
use Rattle.std.specs.Prelude.{None}
use Rattle.rules.specs.Words.{same}
use Rattle.rules.specs.Form.{Form, size}
use Rattle.rules.specs.Shape.{digit_count, most_digits}
use Rattle.rules.specs.Edit.{field, has_sign, signed}
use Rattle.rules.specs.Candidate.{minus_fits, read_of, option_of, worth_of}
use Rattle.rules.proofs.Logic.{by_test}
use Rattle.fieldread.specs.Results.{read_in}

module _ (φ : Form) (f : List ℕ) where
  module _ (plus : same (field φ false (worth_of φ f)) f ≡ false) where
    pub reads_zero : worth_of φ f ≡ 0 → read_of φ f ≡ none
    unfolding read_of minus_fits
    reads_zero z = rw (plus, le-ltb 0 (worth_of φ f) (omega arith))

    pub reads_unsigned : has_sign φ ≡ false → read_of φ f ≡ none
    unfolding read_of minus_fits
    reads_unsigned s = rw (plus, s, and-false (ltb 0 (worth_of φ f)))

    pub reads_other : same (field φ true (worth_of φ f)) f ≡ false → read_of φ f ≡ none
    unfolding read_of
    reads_other m = rw (plus, m, and-false (minus_fits φ (worth_of φ f)))

    pub reads_minus : (worth_of φ f ≡ 0 → ⊥) → has_sign φ ≡ true → same (field φ true (worth_of φ f)) f ≡ true → read_of φ f ≡ some (signed true (worth_of φ f))
    unfolding read_of minus_fits
    reads_minus z s m = rw (plus, s, m, lt-ltb 0 (worth_of φ f) (omega arith))

  pub reads_plus : same (field φ false (worth_of φ f)) f ≡ true → read_of φ f ≡ some (signed false (worth_of φ f))
  unfolding read_of
  reads_plus p = rw p

  -- and where nothing is read
  pub reads_long : (length f ≡ size φ → ⊥) → None ≡ read_in φ f
  unfolding read_in
  reads_long n = rw (ne_eqb (length f) (size φ) n, and-false (leb (digit_count φ) most_digits))

  pub reads_many : most_digits < digit_count φ → None ≡ read_in φ f
  unfolding read_in
  reads_many n = rw (lt-leb (digit_count φ) most_digits n)

  pub reads_none : (length f ≡ size φ → most_digits < digit_count φ) → None ≡ read_in φ f
  reads_none h = by_test (eqb (length f) (size φ)) (λ q. reads_many (h (eqb-true _ _ q))) (λ q. reads_long (eqb-false _ _ q))

  pub reads_in : length f ≡ size φ → digit_count φ ≤ most_digits → option_of (read_of φ f) ≡ read_in φ f
  unfolding read_in
  reads_in n d = rw (eq-eqb (length f) (size φ) n, le-leb (digit_count φ) most_digits d)

-- for a caller: a field of a form that an accepted picture may have
pub read_in_lem : (φ : Form) → digit_count φ ≤ most_digits → (f : List ℕ) → length f ≡ size φ → read_in φ f ≡ option_of (read_of φ f)
read_in_lem φ d f n = sym (reads_in φ f n d)
