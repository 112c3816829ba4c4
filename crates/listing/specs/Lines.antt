-- The text of each line of a listing, and what the lent memory holds afterwards, over all inputs. Assumes
-- nothing.
use Rattle.std.specs.Prelude.{ℕ, suc, ◌+◌, ◌*◌, ◌≡◌, cond, List, [], ◌∷◌, ◌++◌, map, leb, eqb, ℤ, pos, length, drop, Option as CodeOption, Some, None, Result, Ok, Err}
use denote.Ref.{Bor}
use Prim.Native.Char.{code}
use Rattle.std.proofs.Math.Option.{Option}
use Rattle.rules.specs.declared.Answer.{Answer}
use Rattle.rules.specs.declared.Refused.{Refused}
use Rattle.rules.specs.Numbers.{PLAN}
use Rattle.rules.specs.Refusals.{refusal_number}
use Rattle.rules.specs.Text.{most_symbols}
use Rattle.rules.specs.Layout.{most_pictures, forms, record_length}
use Rattle.rules.specs.Answers.{answer, compile_answer, RecordReads, ByPlan}
use Rattle.rules.specs.Lister.{decimal, signed_decimal, line, answer_line, record_line}
use Rattle.listing.specs.declared.Listed.{Listed}

-- No line is longer (proofs/Texts.antt): three numbers of at most 20 digits with two commas, a comma and at
-- most 21 characters a value, and the end.
abbrev pub most_line : ℕ
most_line = 3 * 20 + 2 + 22 * most_pictures + 1

-- No plan of an accepted layout is longer (plan_fits in proofs/Layouts.antt): the count, the headers, the
-- count of two bytes and the positions.
abbrev pub most_plan : ℕ
most_plan = 1 + 3 * most_pictures + 2 + most_pictures * most_symbols

-- A line stands before what was there; where the longest has no room, nothing is written and 0 answered.
unfoldable pub line_length : List ℕ → List ℕ → ℕ
line_length text out = cond (leb most_line (length out)) (length text) 0

unfoldable pub line_memory : List ℕ → List ℕ → List ℕ
line_memory text out = cond (leb most_line (length out)) (text ++ drop (length text) out) out

-- the values that a line is given
abbrev pub values_in : Result (Bor (List ℤ)) Refused → Result (List ℤ) Refused
values_in (Ok row) = Ok row.now
values_in (Err refused) = Err refused

-- a line's own number, an answer's number and field, and on success these values
unfoldable pub text_of : ℕ → Result (List ℤ) Refused → List ℕ
text_of k (Ok values) = line (decimal k ∷ decimal 0 ∷ decimal 0 ∷ map signed_decimal values)
text_of k (Err refused) = line (decimal k ∷ decimal (refusal_number refused.refusal) ∷ decimal refused.field ∷ [])

-- A layout's line, by the answer of compiling it into the lent plan. With most_plan bytes lent it is
-- layout_line (layout_text_lem in proofs/Layouts.antt).
unfoldable pub layout_text : List ℕ → List ℕ → List ℕ
layout_text l plan = answer_line 0 (compile_answer l plan) (decimal (length (forms l)) ∷ decimal (record_length (forms l)) ∷ [])

-- an answer's length, where it is no refusal
abbrev pub length_in : Answer → CodeOption ℕ
length_in a = cond (eqb a.number 0) (Some a.length) None

unfoldable pub listed_of : List ℕ → List ℕ → List ℕ → Listed
listed_of l plan out = record { plan = length_in (compile_answer l plan); line = line_length (layout_text l plan) out }

-- A record's line. By bytes that are no plan it says PLAN; else it is the line by the pictures of a layout
-- that has this plan.
abbrev pub RecordText : List ℕ → ℕ → List ℕ → List ℕ → Type 0
RecordText b k rec text =
    ByPlan b (text ≡ answer_line k (answer PLAN 0 0 (pos 0)) [])
    (λ φs. (os : List (Option ℤ)) × RecordReads φs rec os × (text ≡ record_line φs k rec os))

pub record RecordLineIs (k : ℕ) (b rec out : List ℕ) (r : ℕ) (after : List ℕ) : Type 0 where
  pub text : List ℕ
  pub says : RecordText b k rec text
  pub answers : r ≡ line_length text out
  pub leaves : after ≡ line_memory text out

-- what the record holds once a line has been kept in it: a longer line leaves it alone
unfoldable pub kept_in : List ℕ → List ℕ → List ℕ
kept_in l kept = cond (leb (length l) (length kept)) (l ++ drop (length l) kept) kept

-- how many bytes stand before the next LF, or before the end (by this the input's lines are lines_from's:
-- proofs/Splitting.antt)
unfoldable pub to_end : List ℕ → ℕ
to_end [] = 0
to_end (b ∷ s) = cond (eqb b (code "\n")) 0 (suc (to_end s))
