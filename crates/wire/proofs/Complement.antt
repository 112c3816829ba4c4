-- Two's complement at 64 bits: bits_of and int_of are the logic's own of_z and to_z, so the two undo each
-- other. Assumes nothing.
use mathlib.Core.Path.{◌≡◌, refl, sym, ◌∙◌, ap}
use mathlib.Core.Bool.{Bool, true, false, cond}
use Prim.Native.Nat.{ℕ, suc, ◌-◌, ◌^◌, ◌<◌}
use native.Mathlib.Omega.{arith}
use lib.IntN.{ℤ, pos, negsuc}
use lib.Dec.{ltb}
use mir.Syntax.{w64}
use mir.Val.{SFits, sel, to_z, of_z}
use mir.Facts.{to_z-of_z}
use Rattle.rules.specs.Collector.{bits_of, int_of}

-- they are the logic's own
pub bits_is : (z : ℤ) → of_z w64 z ≡ bits_of z
unfolding bits_of
bits_is (pos n) = refl
bits_is (negsuc n) = refl

by : (b : Bool) (x y : ℤ) → sel b x y ≡ cond b x y
by true x y = refl
by false x y = refl

pub int_is : (u : ℕ) → to_z w64 u ≡ int_of u
unfolding int_of
int_is u = by (ltb u (2 ^ 63)) (pos u) (negsuc (2 ^ 64 - suc u))

-- there and back
pub int_bits : (z : ℤ) → SFits w64 z → int_of (bits_of z) ≡ z
int_bits z f = sym (int_is (bits_of z)) ∙ ap (to_z w64) (sym (bits_is z)) ∙ to_z-of_z f

pub bits_lt : (z : ℤ) → SFits w64 z → bits_of z < 2 ^ 64
unfolding bits_of
bits_lt (pos n) f = omega (arith, f.sfits)
bits_lt (negsuc n) f = omega arith
