-- The roles 0 and 1 are the bare digits, and of those past them the punched ones are digits. Assumes nothing.
use mathlib.Core.Path.{◌≡◌, refl, sym}
use mathlib.Core.Bool.{true, false, ◌&&◌, ◌||◌, and-true, or-false, or-true}
use Prim.Native.Nat.{ℕ, zero, suc, ◌<◌}
use native.Mathlib.Omega.{arith}
use borrow.Author.Tests.{lt-leb, ne_eqb}
use lib.Dec.{eqb, leb}
use Rattle.rules.specs.Roles.{is_bare, is_digit, is_nine, is_punched, is_suppressible}
use Rattle.rules.proofs.Logic.{by_test}

digit_high : (r : ℕ) → 1 < r → is_digit r ≡ is_punched r
unfolding is_digit is_nine is_suppressible
digit_high r h = rw (ne_eqb r 0 (λ e. omega arith), ne_eqb r 1 (λ e. omega arith)) (or-false (is_punched r))

pub bare_is : (r : ℕ) → leb r 1 ≡ is_bare r
unfolding is_bare is_digit is_nine is_punched is_suppressible
bare_is zero = refl
bare_is (suc zero) = refl
bare_is (suc (suc r)) =
    let p = is_punched (suc (suc r)) in
    rw (lt-leb (suc (suc r)) 1 (omega arith), digit_high (suc (suc r)) (omega arith)) (by_test p (λ e. rw e) (λ e. rw e))

punched_digit : (r : ℕ) → is_punched r ≡ true → is_digit r ≡ true
unfolding is_digit is_nine
punched_digit r p = rw (p, or-true (eqb r 0))

pub digit_is : (r : ℕ) → (is_bare r || is_punched r) ≡ is_digit r
unfolding is_bare
digit_is r =
    by_test (is_punched r)
    (λ p. rw (p, or-true (is_digit r && false)) (sym (punched_digit r p)))
    (λ p. rw (p, and-true, or-false))
