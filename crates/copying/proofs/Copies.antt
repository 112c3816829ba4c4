-- What a copy leaves, where the part fits and where it does not. Assumes nothing.
use mathlib.Core.Path.{◌≡◌, ◌∙◌}
use mathlib.Core.List.{List, ◌++◌, append_assoc}
use Prim.Native.Nat.{ℕ, ◌+◌, ◌-◌, ◌<◌, ◌≤◌}
use native.Mathlib.Nat.{zero-add}
use native.Mathlib.Omega.{arith}
use borrow.Author.Tests.{le-leb, lt-leb}
use borrow.Rule.Slice.PartMut.{put_mid}
use lib.ListN.{length, drop}
use lib.Seq.{sets, sets-eq, drop-drop}
use Rattle.rules.proofs.Lists.{sets_front}
use Rattle.copying.specs.Copy.{copied}

module _ (part out : List ℕ) where
  pub copied_out : (at : ℕ) → length out < at + length part → copied part at out ≡ out
  unfolding copied
  copied_out at h = rw (lt-leb _ _ h)

  pub copied_in : (at : ℕ) → at + length part ≤ length out → copied part at out ≡ sets out at part
  unfolding copied
  copied_in at h = rw (le-leb _ _ h)

  -- at the first place the part stands before what was there
  pub copied_front : length part ≤ length out → copied part 0 out ≡ part ++ drop (length part) out
  copied_front h = copied_in 0 (rw zero-add h) ∙ sets_front part out h

  -- the part in the place of as many bytes, as the library's copy leaves it
  pub copied_part : (at : ℕ) (there : List ℕ) → at + length part ≤ length out → there ≡ part → put_mid at (at + length part - at) out there ≡ copied part at out
  copied_part at there h e =
      let n : at + length part - at ≡ length part = omega arith in
      rw (e, n, drop-drop (length part) at out, ← append_assoc, copied_in at h, sets-eq part out at h)
