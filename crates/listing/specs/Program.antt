-- What a program that lists an input has to meet: how long its rooms are, where each line of the input
-- begins, and what each line that it prints says. Such lines, each printed once and in order, are the listing
-- (joined in proofs/Joining.antt). Assumes nothing.
use Rattle.std.specs.Prelude.{ℕ, zero, suc, ◌<◌, ◌≡◌, true, cond, ◌&&◌, List, [], ◌∷◌, leb, ℤ, length, get_or, drop, replicate}
use Rattle.std.proofs.Math.Option.{Option}
use Rattle.rules.specs.Layout.{forms}
use Rattle.rules.specs.Answers.{RecordReads}
use Rattle.rules.specs.Lister.{lines_from, layout_line, record_line, over_limit}
use Rattle.listing.specs.declared.walk.Lines.{Lines}
pub use Rattle.rules.specs.Layout.{accepted, HasPlan}
pub use Rattle.rules.specs.Lister.{most_input}

-- RULES 8.6: the record that the lister keeps; no accepted layout's record is longer (record_fits in
-- proofs/Layouts.antt)
abbrev pub most_record : ℕ
most_record = 2048

abbrev pub cleared : List ℕ
cleared = replicate most_record 0

abbrev pub lines_in : List ℕ → List (List ℕ)
lines_in s = lines_from [] s

-- the lines that a walk has still to give
abbrev pub lines_left : Lines → List (List ℕ)
lines_left ls = lines_in ls.rest.now

-- the input's layout line, empty where the input is
abbrev pub layout_in : List ℕ → List ℕ
layout_in s = get_or (lines_in s) 0 []

-- line k of the input begins at byte `at`: the lines from there on are those behind the first k. The layout
-- is line 0, record k is line k.
abbrev pub Begins : List ℕ → ℕ → ℕ → Type 0
Begins s k at = lines_in (drop at s) ≡ drop k (lines_in s)

-- the layout is accepted, and the text is the line of record k
pub record RecordLineIn (s : List ℕ) (k : ℕ) (text : List ℕ) : Type 0 where
  pub layout : accepted (layout_in s) ≡ true
  pub there : k < length (lines_in s)
  pub says : List (Option ℤ)
  pub reads : RecordReads (forms (layout_in s)) (get_or (lines_in s) k []) says
  pub gives : text ≡ record_line (forms (layout_in s)) k (get_or (lines_in s) k []) says

abbrev pub LineIn : List ℕ → ℕ → List ℕ → Type 0
LineIn s zero text = text ≡ layout_line (layout_in s)
LineIn s (suc k) text = RecordLineIn s (suc k) text

-- the text is line k of the input's listing: the layout's is line 0
abbrev pub ListingLine : List ℕ → ℕ → List ℕ → Type 0
ListingLine s k text = cond (leb (length s) most_input) (LineIn s k text) ((k ≡ 0) × (text ≡ over_limit))

-- how many lines the listing has
unfoldable pub line_count : List ℕ → ℕ
line_count s = cond (leb (length s) most_input && accepted (layout_in s)) (length (lines_in s)) 1

-- these are the lines of the listing from line k on
abbrev pub Listing : List ℕ → ℕ → List (List ℕ) → Type 0
Listing s k [] = k ≡ line_count s
Listing s k (t ∷ ts) = ListingLine s k t × Listing s (suc k) ts
