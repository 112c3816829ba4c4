-- RULES 9.11: the text of each line of a total, and what the lent memory holds afterwards, over all inputs.
-- Assumes nothing.
use Rattle.std.specs.Prelude.{ℕ, ◌+◌, ◌≡◌, cond, List, [], ◌∷◌, map, eqb, ltb, ℤ, pos, get_or, Option, Some, None, Result, Ok, Err}
use Rattle.rules.specs.declared.Answer.{Answer}
use Rattle.rules.specs.declared.Refused.{Refused}
use Rattle.rules.specs.Refusals.{fields_answer}
use Rattle.rules.specs.Layout.{most_pictures}
use Rattle.rules.specs.Lister.{decimal, signed_decimal, line, answer_line}
use Rattle.totals.specs.declared.Sheet.{Sheet}
use Rattle.totals.specs.declared.Added.{Added as CodeAdded}
use Rattle.totals.specs.Totals.{added_in, RecordAddIs}
use Rattle.listing.specs.declared.total.Entered.{Entered}
use Rattle.listing.specs.declared.total.RefusedLine.{RefusedLine}
use Rattle.listing.specs.Lines.{line_length, line_memory}

-- The line of a record that can't be added says why, as the lister's does; a record that is added has none.
unfoldable pub refusal_text : ℕ → Answer → List ℕ
refusal_text k r = cond (eqb r.number 0) [] (answer_line k r [])

-- a refusal, with the length of the line that says so
abbrev pub refused_line : ℕ → Result ℕ Refused → List ℕ → Option RefusedLine
refused_line k (Ok n) out = None
refused_line k (Err e) out = Some (record { refusal = e.refusal; line = line_length (refusal_text k (fields_answer (Err e))) out })

abbrev pub entered_of : ℕ → CodeAdded → List ℕ → Entered
entered_of k a out = record { refused = refused_line k a.outcome out; sheet = a.sheet }

-- what has come of record k is what adding it to the sheet answers (two such outcomes are equal: entered_one
-- in proofs/TotalTexts.antt)
pub record EnteredIs (k : ℕ) (b rec : List ℕ) (s : Sheet) (out : List ℕ) (r : Entered) (after : List ℕ) : Type 0 where
  pub added : CodeAdded
  pub adds : RecordAddIs b rec s (added_in added)
  pub gives : r ≡ entered_of k added out
  pub leaves : after ≡ line_memory (refusal_text k (fields_answer added.outcome)) out

-- a number, and values behind it
unfoldable pub row_text : ℕ → List ℤ → List ℕ
row_text n values = line (decimal n ∷ map signed_decimal values)

unfoldable pub count_text : ℕ → List ℕ
count_text n = row_text n []

-- what the sheet holds at place i, which is field i + 1; a sheet has no more places than a layout may have
-- pictures
unfoldable pub place_text : Sheet → ℕ → List ℕ
place_text s i = cond (ltb i most_pictures) (row_text (i + 1) (get_or s.sums i (pos 0) ∷ get_or s.least i (pos 0) ∷ get_or s.greatest i (pos 0) ∷ [])) []
