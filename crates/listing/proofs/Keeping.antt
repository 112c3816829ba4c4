-- A line kept in the record stands before what was there, so that the record's first places are the line. Assumes nothing.
use mathlib.Core.Path.{◌≡◌, refl, ◌∙◌}
use mathlib.Core.List.{List}
use Prim.Native.Nat.{ℕ, ◌≤◌, ◌<◌}
use lib.ListN.{length, take, drop}
use lib.Seq.{take_at}
use borrow.Author.Tests.{le-leb, lt-leb}
use Rattle.copying.specs.Copy.{copied}
use Rattle.copying.proofs.Copies.{copied_front}
use Rattle.listing.specs.Lines.{kept_in}

module _ (l kept : List ℕ) where
  pub kept_out : length kept < length l → kept ≡ kept_in l kept
  unfolding kept_in
  kept_out h = rw (lt-leb (length l) (length kept) h)

  pub kept_in_lem : length l ≤ length kept → copied l 0 kept ≡ kept_in l kept
  unfolding kept_in
  kept_in_lem h = copied_front l kept h ∙ rw (le-leb (length l) (length kept) h)

  pub kept_line : (after : List ℕ) → after ≡ copied l 0 kept → length l ≤ length kept → take (length l) after ≡ l
  kept_line after e h = rw (e, copied_front l kept h) (take_at l (drop (length l) kept) (length l) refl)
