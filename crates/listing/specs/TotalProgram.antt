-- What a program that totals an input has to meet: which records it adds and where it stops, and what each
-- line that it prints says. That the sheet holds the totals of the records accepted is proved in
-- proofs/TotalPrinting.antt. Assumes nothing.
use Rattle.std.specs.Prelude.{ℕ, suc, ◌+◌, ◌≤◌, ◌<◌, ◌≡◌, true, cond, ◌||◌, List, [], eqb, length, get_or, Option, Some, None}
use Rattle.rules.specs.declared.Refusal.{Refusal}
use Rattle.rules.specs.Numbers.{SIZE, FULL}
use Rattle.rules.specs.Refusals.{refusal_number}
use Rattle.rules.specs.Layout.{accepted, forms}
use Rattle.rules.specs.Lister.{most_input, layout_line, over_limit}
use Rattle.totals.specs.declared.Sheet.{Sheet}
use Rattle.totals.specs.Totals.{Added, empty_sheet, RecordAddedIs}
use Rattle.listing.specs.Program.{lines_in, layout_in}
use Rattle.listing.specs.TotalLines.{refusal_text, count_text, place_text}

-- how many fields the input's layout has
abbrev pub fields_in : List ℕ → ℕ
fields_in s = length (forms (layout_in s))

-- 1 for a record that is refused, else 0
unfoldable pub refused_one : ℕ → ℕ
refused_one number = cond (eqb number 0) 0 1

-- RULES 9.11: the number where a limit of the sheet is met, else 0
unfoldable pub limit_of : ℕ → ℕ
limit_of number = cond (eqb number FULL || eqb number SIZE) number 0

-- the number of the limit that has been met, or 0
abbrev pub stop_number : Option Refusal → ℕ
stop_number None = 0
stop_number (Some refusal) = refusal_number refusal

-- record k of the input, added to this sheet
pub record Adds (s : List ℕ) (k : ℕ) (t : Sheet) (a : Added) : Type 0 where
  pub there : k < length (lines_in s)
  pub adds : RecordAddedIs (forms (layout_in s)) (get_or (lines_in s) k []) t a

-- RULES 9.11: behind an accepted layout the records 1 to k, added in order, leave this sheet. So many of them
-- are refused, and the last one, and no other, has met the limit `stop`, where that is not 0.
pub data Adding (s : List ℕ) : ℕ → ℕ → ℕ → Sheet → Type 0 where
  begun : length s ≤ most_input → accepted (layout_in s) ≡ true → Adding s 0 0 0 empty_sheet
  further : {k n : ℕ} {t : Sheet} → Adding s k n 0 t → (a : Added) → Adds s (suc k) t a
      → Adding s (suc k) (n + refused_one a.answer.number) (limit_of a.answer.number) a.sheet

-- and no record is left, or a limit has been met
pub record Totalled (s : List ℕ) (k n stop : ℕ) (t : Sheet) : Type 0 where
  pub adding : Adding s k n stop t
  pub ends : stop ≡ 0 → suc k ≡ length (lines_in s)

-- the text is a line of the input's total
pub data TotalLine (s : List ℕ) : List ℕ → Type 0 where
  over : most_input < length s → TotalLine s over_limit
  layout : length s ≤ most_input → TotalLine s (layout_line (layout_in s))
  refused : {k n : ℕ} {t : Sheet} → Adding s k n 0 t → (a : Added) → Adds s (suc k) t a → (a.answer.number ≡ 0 → ⊥)
      → TotalLine s (refusal_text (suc k) a.answer)
  count : {k n stop : ℕ} {t : Sheet} → Totalled s k n stop t → TotalLine s (count_text t.count)
  field : {k n stop : ℕ} {t : Sheet} → Totalled s k n stop t → (i : ℕ) → i < fields_in s → TotalLine s (place_text t i)
