-- RULES 8, the lister: the lines that it writes for an input. Assumes nothing.
use Rattle.std.specs.Prelude.{ℕ, zero, suc, ◌+◌, ◌≡◌, cond, List, [], ◌∷◌, ◌++◌, map, ℤ, pos, negsuc, leb, eqb, length}
use Prim.Native.Char.{code}
use Rattle.std.proofs.Math.Option.{Option}
use Rattle.rules.specs.declared.Answer.{Answer}
use Rattle.rules.specs.Numbers.{INPUT}
use Rattle.rules.specs.Digits.{digits_of}
use Rattle.rules.specs.Form.{Form}
use Rattle.rules.specs.Layout.{accepted, forms, record_length, plan_of}
use Rattle.rules.specs.Answers.{answer, compile_answer, row_length, amounts, RecordReads, record_answer}

-- RULES 8.2: so many bytes at most
abbrev pub most_input : ℕ
most_input = 65536

abbrev line_end : ℕ
line_end = 10

-- RULES 8.1: LF ends a line, and so does the input's end where something has been begun. `sofar` is the line begun.
unfoldable pub lines_from : List ℕ → List ℕ → List (List ℕ)
lines_from [] [] = []
lines_from (c ∷ sofar) [] = (c ∷ sofar) ∷ []
lines_from sofar (b ∷ s) =
    let here = sofar ∷ lines_from [] s in
    let more = lines_from (sofar ++ (b ∷ [])) s in
    cond (eqb b line_end) here more

-- RULES 8.5, a number in decimal: no leading zero, no plus, a minus before a negative one. The numbers of a listing have at most 20 digits.
unfoldable pub trimmed : List ℕ → List ℕ
trimmed [] = []
trimmed (d ∷ []) = (code "0" + d) ∷ []
trimmed (zero ∷ e ∷ ds) = trimmed (e ∷ ds)
trimmed (suc d ∷ e ∷ ds) = map (λ c. code "0" + c) (suc d ∷ e ∷ ds)

unfoldable pub decimal : ℕ → List ℕ
decimal n = trimmed (digits_of 20 n)

abbrev pub signed_decimal : ℤ → List ℕ
signed_decimal (pos n) = decimal n
signed_decimal (negsuc n) = code "-" ∷ decimal (suc n)

-- RULES 8.5: the words of a line
unfoldable pub line : List (List ℕ) → List ℕ
line [] = line_end ∷ []
line (w ∷ []) = w ++ (line_end ∷ [])
line (w ∷ v ∷ ws) = w ++ (code "," ∷ line (v ∷ ws))

-- a line's own number, the answer's number and field, and on success what belongs to it
unfoldable pub answer_line : ℕ → Answer → List (List ℕ) → List ℕ
answer_line k r more = line (decimal k ∷ decimal r.number ∷ decimal r.field ∷ cond (eqb r.number 0) more [])

-- the compiling of the layout line, with room enough
abbrev layout_answer : List ℕ → Answer
layout_answer l = compile_answer l (plan_of (forms l))

-- RULES 8.3: 0, the answer, and on success the two counts
unfoldable pub layout_line : List ℕ → List ℕ
layout_line l = answer_line 0 (layout_answer l) (decimal (length (forms l)) ∷ decimal (record_length (forms l)) ∷ [])

-- RULES 8.4: `os` is what the record's fields say, and a row is long enough
unfoldable pub record_line : List Form → ℕ → List ℕ → List (Option ℤ) → List ℕ
record_line φs k rec os = answer_line k (record_answer φs rec (row_length φs) os) (map signed_decimal (amounts os))

unfoldable pub record_lines : List Form → ℕ → List (List ℕ) → List (List (Option ℤ)) → List ℕ
record_lines φs k [] oss = []
record_lines φs k (rec ∷ recs) [] = []
record_lines φs k (rec ∷ recs) (os ∷ oss) = record_line φs k rec os ++ record_lines φs (suc k) recs oss

-- what each record's fields say
abbrev pub AllRead : List Form → List (List ℕ) → List (List (Option ℤ)) → Type 0
AllRead φs [] [] = Unit {0}
AllRead φs [] (os ∷ oss) = ⊥
AllRead φs (rec ∷ recs) [] = ⊥
AllRead φs (rec ∷ recs) (os ∷ oss) = RecordReads φs rec os × AllRead φs recs oss

-- RULES 8.3: the listing of an input's lines. Behind an accepted layout the records are listed, behind a refused one nothing is. An input without
-- lines has an empty layout.
abbrev pub ListsLines : List (List ℕ) → List ℕ → Type 0
ListsLines [] out = out ≡ layout_line []
ListsLines (l ∷ recs) out =
    cond (accepted l)
    ((oss : List (List (Option ℤ))) × AllRead (forms l) recs oss × (out ≡ layout_line l ++ record_lines (forms l) 1 recs oss))
    (out ≡ layout_line l)

-- RULES 8.2: all that is listed of a longer input
unfoldable pub over_limit : List ℕ
over_limit = answer_line 0 (answer INPUT 0 0 (pos 0)) []

-- this is the listing of this input
abbrev pub Lists : List ℕ → List ℕ → Type 0
Lists input out = cond (leb (length input) most_input) (ListsLines (lines_from [] input) out) (out ≡ over_limit)
