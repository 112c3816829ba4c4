-- A magnitude's negation as the code takes it: it fits, and it is the number with a minus. Assumes nothing.
use mathlib.Core.Path.{◌≡◌}
use mathlib.Core.Bool.{Bool, true, false}
use Prim.Native.Nat.{ℕ, zero, suc, ◌^◌, ◌<◌}
use native.Mathlib.Omega.{arith}
use lib.IntN.{pos, neg_ℤ, ◌-ℤ◌, +ℤ_idl}
use mir.Syntax.{w64}
use mir.Val.{SFits, to_z, of_z}
use mir.Facts.{to_z-of_z, to_z_pos}
use Rattle.rules.specs.Edit.{signed}

signed_fits : (b : Bool) (t : ℕ) → t < 2 ^ 63 → SFits w64 (signed b t)
signed_fits false t h = record { sfits = h }
signed_fits true zero h = record { sfits = h }
signed_fits true (suc t) h = record { sfits = omega arith }

module _ (t : ℕ) (h : t < 2 ^ 63) where
  from_neg : pos 0 -ℤ to_z w64 t ≡ signed true t
  from_neg = rw (to_z_pos w64 h) (+ℤ_idl (neg_ℤ (pos t)))

  pub neg_fits : SFits w64 (pos 0 -ℤ to_z w64 t)
  neg_fits = rw from_neg (signed_fits true t h)

  pub to_neg : to_z w64 (of_z w64 (pos 0 -ℤ to_z w64 t)) ≡ signed true t
  to_neg = rw from_neg (to_z-of_z (signed_fits true t h))
