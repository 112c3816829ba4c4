-- The lines of a listing, each once and in order, are the listing: behind the layout's line each record's line is what `record_lines` joins, and
-- where the layout is refused there is no other line. Assumes nothing.
use mathlib.Core.Path.{◌≡◌, refl, sym, ◌∙◌}
use mathlib.Core.Bool.{true, false, true≢false}
use mathlib.Core.List.{List, [], ◌∷◌, ◌++◌, append-nil, flatten}
use mathlib.Core.Option.{Option}
use Prim.Native.Nat.{ℕ, suc, ◌≤◌}
use native.Mathlib.Omega.{arith}
use lib.Dec.{leb}
use lib.IntN.{ℤ}
use lib.ListN.{length, drop, drop_of_length-le}
use lib.Seq.{drop-cons}
use Rattle.rules.specs.Layout.{accepted, forms}
use Rattle.rules.specs.Lister.{most_input, layout_line, record_lines, AllRead, ListsLines, Lists, over_limit}
use Rattle.rules.proofs.Logic.{by_test}
use Rattle.listing.specs.Program.{lines_in, layout_in, RecordLineIn, line_count, Listing}
use Rattle.listing.proofs.Printing.{some_line}

-- Over the limit.
over : (s : List ℕ) (ts : List (List ℕ)) → leb (length s) most_input ≡ false → Listing s 0 ts → flatten ts ≡ over_limit
unfolding flatten line_count
over s [] h w = absurd (omega (arith, rw h at w))
over s (t ∷ []) h w = append-nil t ∙ (rw h at w.0).1
over s (t ∷ u ∷ ts) h w = let z = (rw h at w.1.0).0 in absurd (omega arith)

join : {a b c d : List ℕ} → a ≡ b → c ≡ d → a ++ c ≡ b ++ d
join p q = rw (p, q)

-- Within it.
module _ (s : List ℕ) (h : leb (length s) most_input ≡ true) where
  -- behind an accepted layout
  records : (k : ℕ) (ts : List (List ℕ)) → accepted (layout_in s) ≡ true → Listing s (suc k) ts
      → (oss : List (List (Option ℤ))) × AllRead (forms (layout_in s)) (drop (suc k) (lines_in s)) oss
      × (flatten ts ≡ record_lines (forms (layout_in s)) (suc k) (drop (suc k) (lines_in s)) oss)
  unfolding flatten record_lines line_count
  records k [] a w =
      let n : suc k ≡ length (lines_in s) = rw (h, a) at w in
      rw (drop_of_length-le (lines_in s) {i = suc k} (omega arith)) ([], tt, refl)
  records k (t ∷ ts) a w =
      let r : RecordLineIn s (suc k) t = rw h at w.0 in
      let more = records (suc k) ts a w.1 in
      rw (drop-cons (lines_in s) (suc k) [] r.there) (r.says ∷ more.0, (r.reads, more.1), join r.gives more.2)

  -- behind a refused one
  no_records : (k : ℕ) (ts : List (List ℕ)) → accepted (layout_in s) ≡ false → Listing s (suc k) ts → ts ≡ []
  no_records k [] a w = refl
  no_records k (t ∷ ts) a w = let r : RecordLineIn s (suc k) t = rw h at w.0 in absurd (true≢false (sym r.layout ∙ a))

  lines : (ls : List (List ℕ)) (t : List ℕ) (ts : List (List ℕ)) → lines_in s ≡ ls → Listing s 0 (t ∷ ts) → ListsLines ls (t ++ flatten ts)
  unfolding flatten
  lines [] t ts e w =
      let p : t ≡ layout_line (layout_in s) = rw h at w.0 in
      by_test (accepted (layout_in s))
      (λ a. absurd (omega (arith, some_line [] (rw e at a))))
      (λ a. rw (no_records 0 ts a w.1) (append-nil t ∙ rw e at p))
  lines (l ∷ recs) t ts e w =
      let p : t ≡ layout_line (layout_in s) = rw h at w.0 in
      by_test (accepted (layout_in s))
      (λ a. let b : accepted l ≡ true = rw e at a in let more = rw e at (records 0 ts a w.1) in rw b (more.0, more.1, join (rw e at p) more.2))
      (λ a. let b : accepted l ≡ false = rw e at a in rw (b, no_records 0 ts a w.1) (append-nil t ∙ rw e at p))

some_count : (s : List ℕ) → 1 ≤ line_count s
unfolding line_count
some_count s =
    by_test (leb (length s) most_input)
    (λ h. by_test (accepted (layout_in s)) (λ a. rw (h, a) (some_line (lines_in s) a)) (λ a. rw (h, a) (omega arith)))
    (λ h. rw h (omega arith))

-- The listing is its lines, joined.
pub joined : (s : List ℕ) (ts : List (List ℕ)) → Listing s 0 ts → Lists s (flatten ts)
unfolding flatten
joined s [] w = absurd (omega (arith, some_count s))
joined s (t ∷ ts) w = by_test (leb (length s) most_input) (λ h. rw h (lines s h (lines_in s) t ts refl w)) (λ h. rw h (over s (t ∷ ts) h w))
