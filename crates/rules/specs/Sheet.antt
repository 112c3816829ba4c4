-- RULES 10, the sheet of examples: its lines as data, with what it means that a line holds. A line says what goes in and what comes out in plain numbers
-- and texts, by no name of a definition, so that a definition that says something else fails at a line. proofs/Examples.antt proves that all
-- of them hold: those of which the customers ask a proof as one list with one statement, and the others. The lines of specs/Lines.antt are
-- of the same kind. Assumes nothing.
use Rattle.std.specs.Prelude.{ℕ, zero, suc, ◌≡◌, List, [], ◌∷◌, ◌++◌, ℤ, pos, neg_ℤ, length, replicate}
use Prim.Native.String.{String, [] as none, ◌∷◌ as ◌then◌}
use Rattle.rules.specs.declared.Answer.{Answer}
use Rattle.rules.specs.declared.Rounding.{Rounding}
use Rattle.rules.specs.declared.Rounding.TheVariants.{HalfAway, Cut}
use Rattle.rules.specs.Words.{text}
use Rattle.rules.specs.Shape.{picture_of}
use Rattle.rules.specs.Layout.{forms, plan_of}
use Rattle.rules.specs.Answers.{PlanEditIs, PlanReadIs, ReadIs, check_answer, compile_answer, compile_memory, edit_answer, edit_memory}
use Rattle.rules.specs.Near.{apart}
use Rattle.rules.specs.Collector.{ReadRunIs, packed, row_bytes, row_in}
use Rattle.rules.specs.Lister.{Lists}

-- one text behind another, and a text or a list of bytes n times
abbrev pub joined : String → String → String
joined none t = t
joined (c then s) t = c then joined s t

abbrev pub repeated : ℕ → String → String
repeated zero s = none
repeated (suc n) s = joined s (repeated n s)

abbrev pub series : ℕ → List ℕ → List ℕ
series zero bs = []
series (suc n) bs = bs ++ series n bs

-- the refusal with this number and field, and the success with this length and value
abbrev pub refusal : ℕ → ℕ → Answer
refusal n field = record { number = n; field = field; length = 0; value = pos 0 }

abbrev pub success : ℕ → ℤ → Answer
success length m = record { number = 0; field = 0; length = length; value = m }

pub data Line : Type 0 where
  -- in this mode the picture edits M at scale q to the field, in an output of just its length
  edits_by : Rounding → String → ℤ → ℕ → String → Line
  -- in this mode the picture refuses M at scale q with this number, and leaves an output of 64 places
  refuses_by : Rounding → String → ℤ → ℕ → ℕ → Line
  -- editing in this mode into an output with this content gives this answer, and the output then holds that
  edits_into_by : Rounding → String → ℤ → ℕ → String → Answer → String → Line
  -- the picture reads the field as this value
  reads : String → String → ℤ → Line
  -- the picture refuses the field with this number
  rejects : String → String → ℕ → Line
  -- the text is accepted as a picture of n positions, or refused with this number
  accepts : String → ℕ → Line
  forbids : String → ℕ → Line
  -- the picture is kept as these symbols in their room, with this count
  keeps : String → List ℕ → ℕ → Line
  -- the layout has this plan, or is refused with this number and field
  compiles : String → List ℕ → Line
  spoils : String → ℕ → ℕ → Line
  -- compiling into an output with this content gives this answer, and the output then holds that
  compiles_into : String → List ℕ → Answer → List ℕ → Line
  -- by the layout's plan, reading the record into this row and editing this row into an output with this content give this answer, and the
  -- row or the output then holds that
  plan_reads : String → String → List ℤ → Answer → List ℤ → Line
  plan_edits : String → List ℤ → String → Answer → String → Line
  -- the bytes are no plan: whatever the record, the row and the output are, both calls give 12 and leave them
  no_plan : List ℕ → Line
  -- the first value at its scale is this far from the second
  differs : ℤ → ℕ → ℤ → ℕ → ℕ → Line
  -- the answer as one number, a row as bytes and back, and a field read into a run, which then holds that
  packs : Answer → ℕ → Line
  stores : List ℤ → List ℕ → Line
  reads_run : String → String → List ℕ → ℕ → List ℕ → Line
  -- the input has this listing
  lists : String → String → Line

-- RULES 3.2: what is edited is rounded, where the line doesn't ask for the cut
abbrev pub edits : String → ℤ → ℕ → String → Line
edits = edits_by HalfAway

abbrev pub cuts : String → ℤ → ℕ → String → Line
cuts = edits_by Cut

abbrev pub refuses : String → ℤ → ℕ → ℕ → Line
refuses = refuses_by HalfAway

abbrev pub cut_refuses : String → ℤ → ℕ → ℕ → Line
cut_refuses = refuses_by Cut

abbrev pub edits_into : String → ℤ → ℕ → String → Answer → String → Line
edits_into = edits_into_by HalfAway

abbrev pub cuts_into : String → ℤ → ℕ → String → Answer → String → Line
cuts_into = edits_into_by Cut

-- a lent output of just the field's length, with nothing in it yet
abbrev pub blank_for : String → List ℕ
blank_for f = replicate (length (text f)) 0

-- a lent output that is long enough for every field, and one for every plan
abbrev pub field_room : List ℕ
field_room = replicate 64 0

abbrev pub plan_room : List ℕ
plan_room = replicate 2147 0

unfoldable pub Holds : Line → Type 0
Holds (edits_by w p m q f) =
    (edit_answer w (text p) m q (blank_for f) ≡ success (length (text f)) (pos 0)) × (edit_memory w (text p) m q (blank_for f) ≡ text f)
Holds (refuses_by w p m q n) = (edit_answer w (text p) m q field_room ≡ refusal n 0) × (edit_memory w (text p) m q field_room ≡ field_room)
Holds (edits_into_by w p m q out r after) = (edit_answer w (text p) m q (text out) ≡ r) × (edit_memory w (text p) m q (text out) ≡ text after)
Holds (reads p f m) = ReadIs (text p) (text f) (success 1 m)
Holds (rejects p f n) = ReadIs (text p) (text f) (refusal n 0)
Holds (accepts p n) = check_answer (text p) ≡ success n (pos 0)
Holds (forbids p n) = check_answer (text p) ≡ refusal n 0
Holds (keeps p symbols n) = picture_of (text p) ≡ record { symbols = symbols; count = n }
Holds (compiles l plan) =
    (compile_answer (text l) (replicate (length plan) 0) ≡ success (length plan) (pos 0)) × (compile_memory (text l) (replicate (length plan) 0) ≡ plan)
Holds (spoils l n field) = (compile_answer (text l) plan_room ≡ refusal n field) × (compile_memory (text l) plan_room ≡ plan_room)
Holds (compiles_into l out r after) = (compile_answer (text l) out ≡ r) × (compile_memory (text l) out ≡ after)
Holds (plan_reads l rec row r after) = PlanReadIs (plan_of (forms (text l))) (text rec) row r after
Holds (plan_edits l row out r after) = PlanEditIs (plan_of (forms (text l))) row (text out) r (text after)
Holds (no_plan b) =
    ((rec : List ℕ) (row : List ℤ) → PlanReadIs b rec row (refusal 12 0) row) × ((row : List ℤ) (out : List ℕ) → PlanEditIs b row out (refusal 12 0) out)
Holds (differs n f m q d) = apart n f m q ≡ d
Holds (packs r n) = packed r ≡ n
Holds (stores row bytes) = (row_bytes row ≡ bytes) × (row_in (length row) bytes ≡ row)
Holds (reads_run p f run r after) = ReadRunIs (text p) (text f) run r after
Holds (lists input out) = Lists (text input) (text out)

unfoldable pub All : List Line → Type 0
All [] = Unit {0}
All (l ∷ ls) = Holds l × All ls

abbrev pub minus : ℕ → ℤ
minus n = neg_ℤ (pos n)

-- The customers' lines of which they ask a proof. Their editing asks for the cut.
abbrev pub sheet : List Line
sheet =
    cuts "ZZ9V.99" (pos 1234) 2 " 12.34" ∷
    cuts "ZZ9V.99" (pos 0) 0 "  0.00" ∷
    cuts "ZZZV.ZZ" (pos 0) 0 "      " ∷
    cuts "ZZZV.ZZ" (pos 1) 2 "   .01" ∷
    cuts "ZZZ.VZZ" (pos 1) 2 "    01" ∷
    cuts "$$,$$9" (pos 123) 0 "  $123" ∷
    cuts "$$,$$9" (pos 1234) 0 "$1,234" ∷
    cuts "$$,$$9" (pos 0) 0 "    $0" ∷
    cuts "***9CR" (minus 5) 0 "***5CR" ∷
    cuts "***9CR" (pos 5) 0 "***5  " ∷
    cuts "---9" (minus 7) 0 "  -7" ∷
    cuts "+++9" (minus 7) 0 "   7" ∷
    rejects "ZZ9" "   " 10 ∷
    rejects "ZZ9" "007" 10 ∷
    reads "ZZ9" "  7" (pos 7) ∷
    reads "ZZZ" "   " (pos 0) ∷ []

-- Their others, the plan of a layout and the listing among them.
abbrev pub others : List Line
others =
    cuts "S999" (minus 1) 1 "+000" ∷
    cuts "(3)9V9" (pos 12345) 2 "1234" ∷
    cuts "99" (pos 99) 0 "99" ∷
    cut_refuses "99" (pos 100) 0 8 ∷
    cut_refuses "99" (minus 1) 0 8 ∷
    cuts "99" (minus 9) 1 "00" ∷
    cuts "99V9" (pos 9995) 2 "999" ∷
    refuses "99V9" (pos 9995) 2 8 ∷
    cuts "**B**" (pos 5) 0 "** *5" ∷
    cuts "$$B$$9" (pos 123) 0 " $ 123" ∷
    forbids "(64)9" 5 ∷
    forbids "(64)9V" 3 ∷
    accepts "(18)9" 18 ∷
    forbids "(19)9" 5 ∷
    forbids "9Z" 4 ∷
    forbids "CR" 5 ∷
    forbids "(0)9" 2 ∷
    compiles "ZZ9V.99;-9;" (2 ∷ 6 ∷ 3 ∷ 1 ∷ 2 ∷ 2 ∷ 0 ∷ 0 ∷ 8 ∷ 1 ∷ 1 ∷ 0 ∷ 8 ∷ 0 ∷ 0 ∷ 5 ∷ 0 ∷ []) ∷
    lists "ZZ9V.99;-9;\n 12.34-7\n  7.00 8\n   .00 8\n" "0,0,0,2,8\n1,0,0,1234,-7\n2,0,0,700,8\n3,10,1\n" ∷
    lists "" "0,11,0\n" ∷ []
