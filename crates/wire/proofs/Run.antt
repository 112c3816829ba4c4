-- A number put into a run and read from it, where its eight bytes fit and where they do not; and the number
-- of its own bytes is that number. Assumes nothing.
use mathlib.Core.Path.{◌≡◌, sym, ◌∙◌, ap}
use mathlib.Core.List.{List, ◌++◌}
use Prim.Native.Nat.{ℕ, ◌+◌, ◌-◌, ◌≤◌, ◌<◌}
use native.Mathlib.Omega.{arith}
use lib.IntN.{ℤ, pos}
use lib.ListN.{length, take, drop, length-append, length-drop}
use lib.Seq.{take_at, drop-drop, length-take-le}
use borrow.Author.Tests.{le-leb, leb-false, leb-true, lt-leb}
use lib.Dec.{leb}
use mir.Syntax.{w64}
use mir.Val.{SFits, of_z, to_z}
use borrow.Rule.Slice.PartMut.{put_mid}
use Rattle.std.specs.Array.{IsWholeChunk}
use Rattle.std.specs.Int.{from_le_bytes, to_le_bytes}
use Rattle.rules.proofs.Logic.{by_test}
use Rattle.rules.specs.Collector.{bits_of, le_bytes, bytes_of, int_in}
use Rattle.wire.specs.Run.{put_at, get_at}
use Rattle.wire.proofs.Complement.{bits_lt, int_bits, int_is}
use Rattle.wire.proofs.Bytes.{eight_bytes, value_bytes, from_bytes, to_bytes}

-- by the two ways of the test
module _ (d : List ℕ) (at : ℕ) where
  pub put_out : (m : ℤ) → length d < at + 8 → put_at d at m ≡ d
  unfolding put_at
  put_out m h = rw (lt-leb _ _ h)

  pub put_in : (m : ℤ) → at + 8 ≤ length d → put_at d at m ≡ take at d ++ (bytes_of m ++ drop (at + 8) d)
  unfolding put_at
  put_in m h = rw (le-leb _ _ h)

  pub get_out : length d < at + 8 → get_at d at ≡ pos 0
  unfolding get_at
  get_out h = rw (lt-leb _ _ h)

  pub get_in : at + 8 ≤ length d → get_at d at ≡ int_in (drop at d)
  unfolding get_at
  get_in h = rw (le-leb _ _ h)

  -- these eight bytes in the place of those there, and the number that the library takes from them
  pub put_part : (m : ℤ) (part : List ℕ) → at + 8 ≤ length d → part ≡ to_le_bytes w64 (of_z w64 m) → put_mid at (at + 8 - at) d part ≡ put_at d at m
  put_part m part h e =
      let n : at + 8 - at ≡ 8 = omega arith in
      rw (e ∙ to_bytes m, n, drop-drop 8 at d) (sym (put_in m h))

  pub get_part : (part : List ℕ) → at + 8 ≤ length d → IsWholeChunk (take (at + 8 - at) (drop at d)) part 8 → to_z w64 (from_le_bytes w64 part) ≡ get_at d at
  unfolding int_in
  get_part part h w =
      let n : at + 8 - at ≡ 8 = omega arith in
      let same = rw n at w.same in
      let long : length part ≡ 8 = ap length same ∙ length-take-le 8 (drop at d) (rw length-drop (omega arith)) in
      rw (from_bytes part long, same) (int_is _ ∙ sym (get_in h))

  -- the run keeps its length
  pub put_length : (m : ℤ) → length (put_at d at m) ≡ length d
  put_length m =
      by_test (leb (at + 8) (length d))
      (λ e. let h : at + 8 ≤ length d = leb-true _ _ e in rw (put_in m h, length-append, length-append, eight_bytes m, length-take-le at d (omega arith), length-drop) (omega arith))
      (λ e. ap length (put_out m (leb-false _ _ e)))

-- the number of its own bytes, with anything after them
pub int_bytes : (m : ℤ) (rest : List ℕ) → SFits w64 m → int_in (bytes_of m ++ rest) ≡ m
unfolding int_in bytes_of
int_bytes m rest f =
    rw (take_at (le_bytes 8 (bits_of m)) rest 8 (eight_bytes m), value_bytes 8 (bits_of m) (bits_lt m f)) (int_bits m f)
