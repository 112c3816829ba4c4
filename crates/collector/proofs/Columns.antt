-- A totals sheet in a run: a column read from it and put into it, the parts of a sheet put one behind the
-- other, and a sheet's bytes read back. Where all that stands before a part has been put, the part goes right
-- behind it, so that four parts are the sheet's bytes. Assumes nothing.
use Prim.Native.Nat.{ℕ, ◌+◌, ◌-◌, ◌^◌, ◌<◌, ◌≤◌}
use mathlib.Core.Path.{◌≡◌, refl, sym, ap, ◌∙◌}
use mathlib.Core.List.{List, [], ◌++◌, append_assoc, append-nil}
use native.Mathlib.Omega.{arith}
use borrow.Author.Tests.{le-leb}
use borrow.Rule.Slice.PartMut.{put_mid}
use lib.IntN.{ℤ, pos}
use lib.ListN.{length, get_or, take, drop, length-append, length-drop, drop_of_length-le, replicate}
use lib.Seq.{take_all, take_at, drop_at, drop-drop}
use mir.Syntax.{w64}
use mir.Val.{SFits}
use Rattle.rules.specs.Layout.{most_pictures}
use Rattle.rules.specs.Collector.{bytes_of, int_in, int_of, le_value, row_bytes, row_in}
use Rattle.totals.specs.declared.Sheet.{Sheet}
use Rattle.totals.specs.Totals.{empty_sheet}
use Rattle.wire.specs.Run.{get_row, put_at, put_row}
use Rattle.wire.proofs.Bytes.{eight_bytes}
use Rattle.wire.proofs.Rows.{row_back, row_length_lem}
use Rattle.wire.proofs.Run.{int_bytes, put_in}
use Rattle.collector.specs.TotalRuns.{sheet_bytes, sheet_in, sheet_size}

-- A run of zeros is an empty sheet.
pub zeros_empty : sheet_in (replicate sheet_size 0) ≡ empty_sheet
unfolding sheet_in int_in int_of le_value row_in
zeros_empty = refl

-- A column: the part of the run from byte `at` on.
module _ (run : List ℕ) (at : ℕ) (h : at + 256 ≤ length run) where
  part_is : take (length run - at) (drop at run) ≡ drop at run
  part_is = take_all (length run - at) (drop at run) (rw (length-drop at run) (omega arith))

  part_room : 256 ≤ length (drop at run)
  part_room = rw (length-drop at run) (omega arith)

  pub column_got : (row : List ℤ) → length row ≡ most_pictures → get_row (take (length run - at) (drop at run)) row ≡ row_in most_pictures (drop at run)
  unfolding get_row
  column_got row n = rw (part_is, n, le-leb 256 (length (drop at run)) part_room)

  pub column_put : (column : List ℤ) (part : List ℕ) → length column ≡ most_pictures → part ≡ put_row (take (length run - at) (drop at run)) column
      → put_mid at (length run - at) run part ≡ take at run ++ (row_bytes column ++ drop (at + 256) run)
  unfolding put_row
  column_put column part n e =
      let p : part ≡ row_bytes column ++ drop 256 (drop at run) = e ∙ rw (part_is, n, le-leb 256 (length (drop at run)) part_room) in
      let q : drop (length run - at) (drop at run) ≡ [] = drop_of_length-le (drop at run) {i = length run - at} (rw (length-drop at run) (omega arith)) in
      rw (p, q, append-nil (row_bytes column ++ drop 256 (drop at run)), drop-drop 256 at run)

-- there and back
column_back : (ms : List ℤ) (rest : List ℕ) → length ms ≡ most_pictures → ((k : ℕ) → SFits w64 (get_or ms k (pos 0))) → row_in most_pictures (row_bytes ms ++ rest) ≡ ms
column_back ms rest n f = ap (λ (k : ℕ). row_in k (row_bytes ms ++ rest)) (sym n) ∙ row_back ms rest f

-- What is put at the end of what has been put.
next_part : (front part run : List ℕ) (at n : ℕ) → length front ≡ at → take at (front ++ drop at run) ++ (part ++ drop (at + n) (front ++ drop at run)) ≡ (front ++ part) ++ drop (at + n) run
next_part front part run at n e =
    rw (take_at front (drop at run) at e, ← drop-drop n at (front ++ drop at run), drop_at front (drop at run) at e, drop-drop n at run)
    (sym (append_assoc front part (drop (at + n) run)))

module _ (s : Sheet) (a : length s.sums ≡ most_pictures) (b : length s.least ≡ most_pictures) (c : length s.greatest ≡ most_pictures) where
  abbrev C : List ℕ
  C = bytes_of (pos s.count)

  abbrev S : List ℕ
  S = row_bytes s.sums

  abbrev L : List ℕ
  L = row_bytes s.least

  abbrev G : List ℕ
  G = row_bytes s.greatest

  sums_end : length (C ++ S) ≡ 264
  sums_end = rw (length-append C S, eight_bytes (pos s.count), row_length_lem s.sums, a)

  least_end : length ((C ++ S) ++ L) ≡ 520
  least_end = rw (length-append (C ++ S) L, sums_end, row_length_lem s.least, b)

  joined : ((C ++ S) ++ L) ++ G ≡ sheet_bytes s
  unfolding sheet_bytes
  joined = rw (append_assoc (C ++ S) L G, append_assoc C S (L ++ G))

  pub sheet_length : length (sheet_bytes s) ≡ sheet_size
  sheet_length = ap length (sym joined) ∙ rw (length-append ((C ++ S) ++ L) G, least_end, row_length_lem s.greatest, c)

  -- the four parts put one after the other
  pub sheet_put : (run r₁ r₂ r₃ r₄ : List ℕ) → sheet_size ≤ length run → r₁ ≡ put_at run 0 (pos s.count) → r₂ ≡ take 8 r₁ ++ (S ++ drop 264 r₁)
      → r₃ ≡ take 264 r₂ ++ (L ++ drop 520 r₂) → r₄ ≡ take 520 r₃ ++ (G ++ drop 776 r₃) → r₄ ≡ sheet_bytes s ++ drop sheet_size run
  sheet_put run r₁ r₂ r₃ r₄ h e₁ e₂ e₃ e₄ =
      let p₁ : r₁ ≡ C ++ drop 8 run = e₁ ∙ put_in run 0 (pos s.count) (omega arith) in
      let p₂ : r₂ ≡ (C ++ S) ++ drop 264 run = e₂ ∙ rw p₁ (next_part C S run 8 256 (eight_bytes (pos s.count))) in
      let p₃ : r₃ ≡ ((C ++ S) ++ L) ++ drop 520 run = e₃ ∙ rw p₂ (next_part (C ++ S) L run 264 256 sums_end) in
      e₄ ∙ rw p₃ (next_part ((C ++ S) ++ L) G run 520 256 least_end) ∙ ap (λ (l : List ℕ). l ++ drop 776 run) joined

  -- A sheet's bytes are read back as the sheet, where each number has 64 bits.
  module _ (rest : List ℕ) where
    abbrev whole : List ℕ
    whole = sheet_bytes s ++ rest

    behind_least : whole ≡ ((C ++ S) ++ L) ++ (G ++ rest)
    behind_least = rw (← joined) (append_assoc ((C ++ S) ++ L) G rest)

    behind_sums : whole ≡ (C ++ S) ++ (L ++ (G ++ rest))
    behind_sums = behind_least ∙ append_assoc (C ++ S) L (G ++ rest)

    behind_count : whole ≡ C ++ (S ++ (L ++ (G ++ rest)))
    behind_count = behind_sums ∙ append_assoc C S (L ++ (G ++ rest))

    pub sheet_back : s.count < 2 ^ 63 → ((k : ℕ) → SFits w64 (get_or s.sums k (pos 0))) → ((k : ℕ) → SFits w64 (get_or s.least k (pos 0)))
        → ((k : ℕ) → SFits w64 (get_or s.greatest k (pos 0))) → sheet_in (sheet_bytes s ++ rest) ≡ s
    unfolding sheet_in
    sheet_back f fs fl fg =
        let p : int_in whole ≡ pos s.count = ap int_in behind_count ∙ int_bytes (pos s.count) _ (record { sfits = f }) in
        let q : row_in 32 (drop 8 whole) ≡ s.sums = rw (behind_count, drop_at C (S ++ (L ++ (G ++ rest))) 8 (eight_bytes (pos s.count))) (column_back s.sums (L ++ (G ++ rest)) a fs) in
        let r : row_in 32 (drop 264 whole) ≡ s.least = rw (behind_sums, drop_at (C ++ S) (L ++ (G ++ rest)) 264 sums_end) (column_back s.least (G ++ rest) b fl) in
        let t : row_in 32 (drop 520 whole) ≡ s.greatest = rw (behind_least, drop_at ((C ++ S) ++ L) (G ++ rest) 520 least_end) (column_back s.greatest rest c fg) in
        rw (p, q, r, t)
