-- RULES 10, lines on totals: what goes in and what comes out in plain numbers and texts, by no name of a
-- definition, as the lines of crate `rules`. proofs/Examples.antt proves that all of them hold. Assumes
-- nothing.
use Rattle.std.specs.Prelude.{ℕ, ◌-◌, ◌≡◌, List, [], ◌∷◌, ◌++◌, ℤ, pos, length, replicate}
use Prim.Native.String.{String}
use Rattle.rules.specs.declared.Answer.{Answer}
use Rattle.rules.specs.Words.{text}
use Rattle.rules.specs.Layout.{forms, plan_of}
use Rattle.rules.specs.Sheet.{minus, refusal, success}
use Rattle.totals.specs.declared.Sheet.{Sheet}
use Rattle.totals.specs.Batch.{End, Next, NextIs, Record, Refused, next_at}
use Rattle.totals.specs.Totals.{AddIs, RecordAddIs}
use Rattle.totals.specs.History.{greatest_of, least_of, total}

pub data Line : Type 0 where
  -- by the layout's plan, the record at this place of the batch added to the sheet gives this answer and
  -- leaves that sheet
  adds : String → String → ℕ → Sheet → Answer → Sheet → Line
  -- and so does a record that stands alone
  adds_alone : String → String → Sheet → Answer → Sheet → Line
  -- the bytes are no plan: whatever the batch, the place and the sheet are, 12 is given and the sheet stays
  no_plan : List ℕ → Line
  -- with records of so many bytes, a batch of so many has this at the place
  finds : ℕ → ℕ → ℕ → Next → Line
  -- the values, the newest first, have this sum, least and greatest
  sums : List ℤ → ℤ → ℤ → ℤ → Line

unfoldable pub Holds : Line → Type 0
Holds (adds l batch at s r after) = AddIs (plan_of (forms (text l))) (text batch) at s (record { answer = r; sheet = after })
Holds (adds_alone l rec s r after) = RecordAddIs (plan_of (forms (text l))) (text rec) s (record { answer = r; sheet = after })
Holds (no_plan b) =
    ((batch : List ℕ) (at : ℕ) (s : Sheet) → AddIs b batch at s (record { answer = refusal 12 0; sheet = s }))
    × ((rec : List ℕ) (s : Sheet) → RecordAddIs b rec s (record { answer = refusal 12 0; sheet = s }))
    × ((batch : List ℕ) (at : ℕ) → NextIs b batch at (Refused 12))
Holds (finds n len at there) = next_at n len at ≡ there
Holds (sums ms all low high) = (total ms ≡ all) × (least_of ms ≡ low) × (greatest_of ms ≡ high)

unfoldable pub All : List Line → Type 0
All [] = Unit {0}
All (l ∷ ls) = Holds l × All ls

-- a sheet with this count and these first places; the others are 0
abbrev padded : List ℤ → List ℤ
padded ms = ms ++ replicate (32 - length ms) (pos 0)

abbrev pub sheet_of : ℕ → List ℤ → List ℤ → List ℤ → Sheet
sheet_of count all low high = record { count = count; sums = padded all; least = padded low; greatest = padded high }

abbrev pub blank : Sheet
blank = sheet_of 0 [] [] []

-- a sheet with count 1 and this sum at its first place; least and greatest are 0
abbrev pub summed : ℤ → Sheet
summed m = sheet_of 1 (m ∷ []) [] []

-- RULES 9.12: a batch of three records, the third of which is refused
abbrev pub three : String
three = " 12.34-7  7.00 8   .00 8"

abbrev pub first : Sheet
first = sheet_of 1 (pos 1234 ∷ minus 7 ∷ []) (pos 1234 ∷ minus 7 ∷ []) (pos 1234 ∷ minus 7 ∷ [])

abbrev pub second : Sheet
second = sheet_of 2 (pos 1934 ∷ pos 1 ∷ []) (pos 700 ∷ minus 7 ∷ []) (pos 1234 ∷ pos 8 ∷ [])

abbrev pub whole : List Line
whole =
    adds "ZZ9V.99;-9;" three 0 blank (success 2 (pos 0)) first ∷
    adds "ZZ9V.99;-9;" three 8 first (success 2 (pos 0)) second ∷
    adds "ZZ9V.99;-9;" three 16 second (refusal 10 1) second ∷
    adds "ZZ9V.99;-9;" three 24 second (success 0 (pos 0)) second ∷
    adds "ZZ9V.99;-9;" three 4 second (refusal 9 0) second ∷
    adds "ZZ9V.99;-9;" three 32 second (refusal 9 0) second ∷
    adds "ZZ9V.99;-9;" " 12.34-7 " 0 blank (refusal 9 0) blank ∷
    adds_alone "ZZ9V.99;-9;" " 12.34-7" blank (success 2 (pos 0)) first ∷
    adds_alone "ZZ9V.99;-9;" three blank (refusal 9 0) blank ∷
    adds_alone "ZZ9V.99;-9;" "" blank (refusal 9 0) blank ∷
    adds_alone "ZZ9V.99;-9;" "   .00 8" first (refusal 10 1) first ∷ []

-- RULES 9.4 to 9.7: the limits, each on both sides, either way; which refusal comes first; what the first
-- record sets; places behind the fields
abbrev pub limits : List Line
limits =
    adds "9;" "8" 0 (sheet_of 8999 [] [] []) (success 1 (pos 0)) (sheet_of 9000 (pos 8 ∷ []) [] (pos 8 ∷ [])) ∷
    adds "9;" "8" 0 (sheet_of 9000 [] [] []) (refusal 14 0) (sheet_of 9000 [] [] []) ∷
    adds "9;" "8" 1 (sheet_of 9000 [] [] []) (refusal 14 0) (sheet_of 9000 [] [] []) ∷
    adds "99;" "8" 0 (sheet_of 9000 [] [] []) (refusal 14 0) (sheet_of 9000 [] [] []) ∷
    adds "99;" "8x8" 0 (sheet_of 0 (pos 1000000000000000000 ∷ []) [] []) (refusal 9 0) (sheet_of 0 (pos 1000000000000000000 ∷ []) [] []) ∷
    adds_alone "99;" "8" (sheet_of 9001 [] [] []) (refusal 14 0) (sheet_of 9001 [] [] []) ∷
    adds "9;" "" 0 blank (success 0 (pos 0)) blank ∷
    adds "9;" "" 0 (summed (pos 1000000000000000000)) (success 0 (pos 0)) (summed (pos 1000000000000000000)) ∷
    adds "9;" "8" 0 (summed (pos 999999999999999991)) (success 1 (pos 0)) (sheet_of 2 (pos 999999999999999999 ∷ []) [] (pos 8 ∷ [])) ∷
    adds "9;" "8" 0 (summed (pos 999999999999999992)) (refusal 8 1) (summed (pos 999999999999999992)) ∷
    adds "9;" "0" 0 (summed (pos 1000000000000000000)) (refusal 8 1) (summed (pos 1000000000000000000)) ∷
    adds "-9;" "-8" 0 (summed (pos 1000000000000000000)) (refusal 8 1) (summed (pos 1000000000000000000)) ∷
    adds "-9;" "-8" 0 (summed (minus 999999999999999991)) (success 1 (pos 0)) (sheet_of 2 (minus 999999999999999999 ∷ []) (minus 8 ∷ []) []) ∷
    adds "-9;" "-8" 0 (summed (minus 999999999999999992)) (refusal 8 1) (summed (minus 999999999999999992)) ∷
    adds "-9;" " 8" 0 (summed (minus 1000000000000000000)) (refusal 8 1) (summed (minus 1000000000000000000)) ∷
    adds "-9;" "-8" 0 (summed (minus 9223372036854775808)) (refusal 8 1) (summed (minus 9223372036854775808)) ∷
    adds "-9;" " 8" 0 (summed (pos 9223372036854775807)) (refusal 8 1) (summed (pos 9223372036854775807)) ∷
    adds "9;9;" "8x" 0 (summed (pos 1000000000000000000)) (refusal 10 2) (summed (pos 1000000000000000000)) ∷
    adds "9;9;" "88" 0 (sheet_of 1 (pos 0 ∷ pos 1000000000000000000 ∷ []) [] []) (refusal 8 2) (sheet_of 1 (pos 0 ∷ pos 1000000000000000000 ∷ []) [] []) ∷
    adds "9;9;" "88" 0 (sheet_of 1 (pos 999999999999999992 ∷ pos 1000000000000000000 ∷ []) [] []) (refusal 8 1) (sheet_of 1 (pos 999999999999999992 ∷ pos 1000000000000000000 ∷ []) [] []) ∷
    adds "9;" "8" 0 (sheet_of 1 (pos 0 ∷ pos 1000000000000000000 ∷ []) [] []) (success 1 (pos 0)) (sheet_of 2 (pos 8 ∷ pos 1000000000000000000 ∷ []) [] (pos 8 ∷ [])) ∷
    adds "9;" "4" 0 (sheet_of 0 (pos 5 ∷ []) (pos 3 ∷ []) (pos 9 ∷ [])) (success 1 (pos 0)) (sheet_of 1 (pos 9 ∷ []) (pos 4 ∷ []) (pos 4 ∷ [])) ∷
    adds "9;" "4" 0 (sheet_of 1 (pos 5 ∷ []) (pos 3 ∷ []) (pos 9 ∷ [])) (success 1 (pos 0)) (sheet_of 2 (pos 9 ∷ []) (pos 3 ∷ []) (pos 9 ∷ [])) ∷ []

-- RULES 9.1 to 9.3: the bytes of a batch, and its places
abbrev pub walks : List Line
walks =
    finds 1 65536 65535 (Record 65535 65536) ∷
    finds 1 65537 0 (Refused 9) ∷
    finds 8 24 0 (Record 0 8) ∷
    finds 8 24 16 (Record 16 24) ∷
    finds 8 24 24 End ∷
    finds 8 24 20 (Refused 9) ∷
    finds 8 24 32 (Refused 9) ∷
    finds 8 20 0 (Refused 9) ∷
    finds 8 0 0 End ∷
    finds 8 65536 65528 (Record 65528 65536) ∷
    finds 8 65536 65536 End ∷
    finds 8 65544 0 (Refused 9) ∷
    finds 7 65534 65527 (Record 65527 65534) ∷
    finds 7 65541 0 (Refused 9) ∷ []

-- RULES 9.8: of a history
abbrev pub histories : List Line
histories =
    sums [] (pos 0) (pos 0) (pos 0) ∷
    sums (minus 7 ∷ []) (minus 7) (minus 7) (minus 7) ∷
    sums (pos 8 ∷ minus 7 ∷ []) (pos 1) (minus 7) (pos 8) ∷
    sums (pos 8 ∷ pos 7 ∷ []) (pos 15) (pos 7) (pos 8) ∷
    sums (minus 7 ∷ minus 8 ∷ []) (minus 15) (minus 8) (minus 7) ∷
    sums (minus 9 ∷ pos 8 ∷ minus 7 ∷ []) (minus 8) (minus 9) (pos 8) ∷ []

-- RULES 5.4: nothing, a plan that was cut, and one whose V stands between C and R
abbrev pub no_plans : List Line
no_plans =
    no_plan [] ∷
    no_plan (1 ∷ 1 ∷ 1 ∷ 0 ∷ 0 ∷ 1 ∷ []) ∷
    no_plan (1 ∷ 3 ∷ 2 ∷ 0 ∷ 0 ∷ 3 ∷ 0 ∷ 11 ∷ 12 ∷ []) ∷ []
