-- A number as little-endian bytes, and back: the library's eight bytes are those of RULES 7.3, and so is the
-- number that it takes from eight. Assumes nothing.
use mathlib.Core.Path.{◌≡◌, refl, sym, ◌∙◌, ap, ap₂}
use mathlib.Core.List.{List, ◌∷◌}
use Prim.Native.Nat.{ℕ, zero, suc, ◌+◌, ◌*◌, ◌/◌, ◌%◌, ◌^◌, ◌<◌}
use native.Mathlib.Nat.{div-one, div-add-mod', div-lt_iff_lt-mul, div-div-eq-div-mul, pow-suc}
use native.Mathlib.Omega.{arith}
use lib.Dec.{lit<}
use lib.IntN.{ℤ}
use lib.ListN.{length, get_or, drop, drop_of_length-le}
use lib.Seq.{drop-cons}
use mir.Syntax.{w64}
use mir.Val.{of_z}
use Rattle.std.specs.Int.{byte_at, bytes_low_first, to_le_bytes, from_le_bytes}
use Rattle.rules.specs.Collector.{bits_of, le_bytes, le_value, bytes_of}
use Rattle.wire.proofs.Complement.{bits_is}

pub bytes_length : (n u : ℕ) → length (le_bytes n u) ≡ n
unfolding le_bytes
bytes_length zero u = refl
bytes_length (suc n) u = ap suc (bytes_length n (u / 256))

pub eight_bytes : (m : ℤ) → length (bytes_of m) ≡ 8
unfolding bytes_of
eight_bytes m = bytes_length 8 (bits_of m)

-- there and back
pub value_bytes : (n u : ℕ) → u < 256 ^ n → le_value (le_bytes n u) ≡ u
unfolding le_bytes le_value
value_bytes zero u h = omega arith
value_bytes (suc n) u h =
    rw (value_bytes n (u / 256) ((div-lt_iff_lt-mul {k = 256} (lit< tt)).1 (rw (pow-suc 256 n) at h))) (div-add-mod' u 256)

-- writing: byte i is the last one of what i divisions leave
byte_is : (i u : ℕ) → byte_at i u ≡ u / 256 ^ i % 256
byte_is zero u = ap (λ x. x % 256) (sym (div-one u))
byte_is (suc i) u = refl

divided : (i u : ℕ) → u / 256 ^ suc i ≡ u / 256 ^ i / 256
divided i u = rw (div-div-eq-div-mul, ← pow-suc)

bytes_are : (i n u : ℕ) → bytes_low_first i n u ≡ le_bytes n (u / 256 ^ i)
unfolding le_bytes
bytes_are i zero u = refl
bytes_are i (suc n) u = ap₂ ◌∷◌ (byte_is i u) (bytes_are (suc i) n u ∙ ap (λ x. le_bytes n x) (divided i u))

pub to_bytes : (m : ℤ) → to_le_bytes w64 (of_z w64 m) ≡ bytes_of m
unfolding bytes_of
to_bytes m = bytes_are 0 8 (of_z w64 m) ∙ ap (λ x. le_bytes 8 x) (div-one (of_z w64 m) ∙ bits_is m)

-- reading: a byte is worth itself, and what stands behind it 256 times as much
value_more : (s : List ℕ) (k : ℕ) → k < length s → le_value (drop k s) ≡ get_or s k 0 + 256 * le_value (drop (suc k) s)
unfolding le_value
value_more s k h = rw (drop-cons s k 0 h) (omega arith)

pub from_bytes : (s : List ℕ) → length s ≡ 8 → from_le_bytes w64 s ≡ le_value s
unfolding le_value
from_bytes s e =
    let none : le_value (drop 8 s) ≡ 0 = ap le_value (drop_of_length-le s {i = 8} (omega arith)) in
    omega (
      arith,
      value_more s 0 (omega arith),
      value_more s 1 (omega arith),
      value_more s 2 (omega arith),
      value_more s 3 (omega arith),
      value_more s 4 (omega arith),
      value_more s 5 (omega arith),
      value_more s 6 (omega arith),
      value_more s 7 (omega arith),
    )
