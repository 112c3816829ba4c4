-- Sums of signed numbers, and the lesser and the greater of two. Assumes nothing.
use mathlib.Core.Path.{◌≡◌, refl}
use mathlib.Core.Bool.{true, false}
use Prim.Native.Nat.{◌<◌}
use native.Mathlib.Omega.{arith}
use borrow.Author.Tests.{ltb-true}
use lib.IntN.{ℤ, nat_abs}
use mir.Syntax.{w64}
use mir.Val.{SFits}
use mir.Facts.{to_z-of_z}
use Rattle.std.specs.Int.{int_max, int_min}
use Rattle.std.proofs.lemmas.Int.{fits_signed_from_abs, ints}
use Rattle.totals.specs.Totals.{greater, lesser, sum_fits, sum_limit}

-- a sum that lies within fits 64 bits
pub sum_bits : (s : ℤ) → sum_fits s ≡ true → SFits w64 s
unfolding sum_fits
sum_bits s h =
    let small : nat_abs s < sum_limit = ltb-true (nat_abs s) sum_limit h in
    fits_signed_from_abs w64 s (omega arith)

-- for what a sum brings
pub ruleset brings = (sum_bits, to_z-of_z)

-- The lesser and the greater of two, which of the first is that alone.
module _ (old m : ℤ) where
  pub lesser_first : lesser true old m ≡ m
  unfolding lesser
  lesser_first = refl

  pub lesser_is : int_min old m ≡ lesser false old m
  unfolding lesser
  lesser_is = grind (arith, ints)

  pub greater_first : greater true old m ≡ m
  unfolding greater
  greater_first = refl

  pub greater_is : int_max old m ≡ greater false old m
  unfolding greater
  greater_is = grind (arith, ints)

pub ruleset bounds = (lesser_first, lesser_is, greater_first, greater_is, to_z-of_z)
