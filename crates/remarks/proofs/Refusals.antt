-- A line of a listing says a refusal exactly when its answer's number is not 0: its own number has no comma,
-- and the answer's begins with 0 only where it is 0. Assumes nothing.
use mathlib.Core.Path.{◌≡◌, refl, ◌∙◌}
use mathlib.Core.Bool.{not}
use mathlib.Core.List.{List, [], ◌∷◌, ◌++◌, map}
use Prim.Native.Nat.{ℕ, zero, suc, ◌+◌, ◌^◌, ◌<◌}
use Prim.Native.Char.{code}
use native.Mathlib.Omega.{arith}
use lib.Dec.{eqb}
use lib.ListN.{length}
use borrow.Author.Tests.{ne_eqb}
use Rattle.rules.specs.declared.Answer.{Answer}
use Rattle.rules.specs.Digits.{digits_of, value_of}
use Rattle.rules.specs.Lister.{trimmed, decimal, line, answer_line}
use Rattle.rules.proofs.Digits.{value_digits, ten_pos}
use Rattle.remarks.specs.Remarks.{not_zero, refuses}

-- a digit is no comma
digit_passed : (d : ℕ) (t : List ℕ) → refuses ((code "0" + d) ∷ t) ≡ refuses t
unfolding refuses
digit_passed d t = rw (ne_eqb (48 + d) 44 (λ h. omega arith))

digits_passed : (ds t : List ℕ) → refuses (map (λ c. code "0" + c) ds ++ t) ≡ refuses t
digits_passed [] t = refl
digits_passed (d ∷ ds) t = digit_passed d (map (λ c. code "0" + c) ds ++ t) ∙ digits_passed ds t

trimmed_passed : (ds t : List ℕ) → refuses (trimmed ds ++ t) ≡ refuses t
unfolding trimmed
trimmed_passed [] t = refl
trimmed_passed (d ∷ []) t = digit_passed d t
trimmed_passed (zero ∷ e ∷ ds) t = trimmed_passed (e ∷ ds) t
trimmed_passed (suc d ∷ e ∷ ds) t = digits_passed (suc d ∷ e ∷ ds) t

-- a number begins with 0 only where it is 0
one : (d : ℕ) → value_of (d ∷ []) ≡ d
unfolding value_of
one d = omega arith

zero_first : (ds : List ℕ) → value_of (0 ∷ ds) ≡ value_of ds
unfolding value_of
zero_first ds = omega arith

some : (d : ℕ) (ds : List ℕ) → value_of (suc d ∷ ds) ≡ 0 → ⊥
unfolding value_of
some d ds h = omega (arith, ten_pos (length ds))

first : (ds : List ℕ) (d : ℕ) (t : List ℕ) → not_zero (trimmed (d ∷ ds) ++ t) ≡ not (eqb (value_of (d ∷ ds)) 0)
unfolding trimmed not_zero
first [] zero t = rw (one 0)
first [] (suc d) t = rw (one (suc d), ne_eqb (48 + suc d) 48 (λ h. omega arith), ne_eqb (suc d) 0 (λ h. omega arith))
first (e ∷ ds) zero t = rw (zero_first (e ∷ ds)) (first ds e t)
first (e ∷ ds) (suc d) t = rw (ne_eqb (48 + suc d) 48 (λ h. omega arith), ne_eqb (value_of (suc d ∷ e ∷ ds)) 0 (some d (e ∷ ds)))

pub says_refusal : (k : ℕ) (r : Answer) (more : List (List ℕ)) → r.number < 10 ^ 20
    → refuses (answer_line k r more) ≡ not (eqb r.number 0)
unfolding answer_line line decimal refuses digits_of
says_refusal k r more h = trimmed_passed (digits_of 20 k) _ ∙ first _ _ _ ∙ rw (value_digits 20 r.number h)
