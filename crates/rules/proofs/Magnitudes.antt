-- Whole numbers by their sign and magnitude. A number goes by its form; the rest is about plain numbers. Assumes nothing.
use mathlib.Core.Path.{◌≡◌, refl}
use mathlib.Core.Bool.{Bool, true, false, not}
use Prim.Native.Nat.{ℕ, zero, suc, ◌+◌, ◌-◌, ◌*◌}
use native.Mathlib.Nat.{zero-mul}
use native.Mathlib.Omega.{arith}
use borrow.Author.Tests.{ltb-true, ltb-false, ne_eqb}
use lib.IntN.{ℤ, pos, negsuc, neg_ℤ, nat_abs, ◌-ℤ◌, ◌*ℤ◌}
use lib.Dec.{ltb, eqb}
use Rattle.rules.specs.Edit.{signed}
use Rattle.rules.proofs.Logic.{by_test}

pub neg_abs : (z : ℤ) → nat_abs (neg_ℤ z) ≡ nat_abs z
neg_abs (pos zero) = refl
neg_abs (pos (suc n)) = refl
neg_abs (negsuc n) = refl

pub signed_abs : (b : Bool) (t : ℕ) → nat_abs (signed b t) ≡ t
signed_abs false t = refl
signed_abs true t = neg_abs (pos t)

pub difference : (a b : ℕ) → nat_abs (pos a -ℤ pos b) ≡ (a - b) + (b - a)
difference a zero = omega arith
difference a (suc b) = by_test (ltb a (suc b)) (λ e. rw e (omega (arith, ltb-true a (suc b) e))) (λ e. rw e (omega (arith, ltb-false a (suc b) e)))

pub signed_times : (t d : ℕ) → signed true t *ℤ pos d ≡ neg_ℤ (pos (t * d))
signed_times zero d = rw zero-mul
signed_times (suc t) d = refl

-- zero is no exception: its sign is plus, and it is its own negative
pub zero_plus : (t : ℕ) → signed (not (eqb t 0)) t ≡ signed true t
zero_plus zero = refl
zero_plus (suc t) = rw (ne_eqb (suc t) 0 (λ e. omega arith))
