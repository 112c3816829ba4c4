-- Counting the refused records one by one. Assumes nothing.
use mathlib.Core.Path.{refl}
use mathlib.Core.Bool.{Bool, true, false}
use mathlib.Core.List.{List}
use Prim.Native.Nat.{ℕ, ◌+◌, ◌≤◌}
use native.Mathlib.Numerals.{add-one}
use native.Mathlib.Omega.{arith}
use Rattle.std.specs.Int.{from_bool}
use Rattle.listing.specs.Program.{ListingLine}
use Rattle.remarks.specs.Remarks.{refuses, RefusedAmong}

pub one_more : (s : List ℕ) (k m : ℕ) (text : List ℕ) → RefusedAmong s k m → ListingLine s (k + 1) text → RefusedAmong s (k + 1) (m + from_bool (refuses text))
one_more s k m text a l = rw (add-one k) (m, a, (text, rw (add-one k) at l, refl))

-- a line counts once at most
pub one_most : (b : Bool) → from_bool b ≤ 1
one_most true = omega arith
one_most false = omega arith
