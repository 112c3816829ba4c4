-- When a line of the sheet holds: where what the definitions make of it, computed, is what it says. Reading goes by the candidate, which
-- reading's exactness makes the answer. Assumes nothing.
use mathlib.Core.Path.{◌≡◌, refl, sym, ap}
use mathlib.Core.Bool.{Bool, true, false, cond}
use mathlib.Core.List.{List, [], ◌∷◌, ◌++◌, map}
use mathlib.Core.Option.{Option}
use Prim.Native.Nat.{ℕ}
use lib.IntN.{ℤ, pos}
use lib.Dec.{leb}
use lib.ListN.{length, get_or, replicate, drop}
use Rattle.rules.specs.Words.{any, count, has, place, same, text, times}
use Rattle.rules.specs.Search.{each, first, last, up_to}
use Rattle.rules.specs.Numbers.{bad_field, first_of}
use Rattle.rules.specs.Text.{copies, expand_from, next, room_of, text_fits}
use Rattle.rules.specs.Roles.{drifts, drifts_sign, is_b, is_digit, is_first_drifting, is_nine, is_punched, is_sign, is_static, is_suppressible, opens}
use Rattle.rules.specs.Form.{Form, form_of, kind_up_to, meaning, number, numbers, roles_from, suppresses}
use Rattle.rules.specs.Shape.{digits_fit, drifting, drifts_before_v, form_shape, nines_last, one_drifts, one_sign, one_v, picture_of, places, shape, statics_placed, suppressed_places, suppression_apart, verdict, whole}
use Rattle.rules.specs.Digits.{digits_of, value_of}
use Rattle.rules.specs.Edit.{aligned, all_suppressible, cell, cell_at, digit_at, digit_char, drifts_to, edited, field, fill, first_shown, has_sign, in_range, in_stretch, is_blank, is_minus, is_shown, list_of, mark, opening, printed, quotient, rounds_up, start, suppressed, too_big}
use Rattle.rules.specs.Near.{apart}
use Rattle.rules.specs.Layout.{HasPlan, accepted, closes, count_fits, cut, forms, headers, plan_of, positions, record_length}
use Rattle.rules.specs.Answers.{ReadIs, answer, answer_over, as_layout, check_answer, compile_answer, compile_memory, compile_number, edit_answer, edit_memory, edit_number, lent_after, as_no_plan, number_over, read_answer, read_before, record_answer, record_in, record_of, row_after, row_answer, row_number, said, verdicts_in}
use Rattle.rules.specs.Collector.{bits_of, bytes_of, int_in, int_of, le_bytes, le_value, packed, read_run_number, row_bytes, row_in}
use Rattle.rules.specs.Lister.{AllRead, Lists, ListsLines, answer_line, decimal, layout_line, line, lines_from, most_input, record_line, record_lines, trimmed}
use Rattle.rules.specs.Good.{bears, fits_room, good, in_order, marks_last, one_dollar, plain_number, well_made}
use Rattle.rules.specs.Candidate.{digit_in, minus_fits, read_all, read_of, shown_in, worth_of}
use Rattle.rules.specs.PlanBytes.{all_good, forms_from, forms_in, is_plan}
use Rattle.rules.specs.Sheet.{All, Holds, Line, edits_by, refuses_by, edits_into_by, reads, rejects, accepts, forbids, keeps, compiles, spoils, compiles_into, plan_reads, plan_edits, no_plan, differs, packs, stores, reads_run, lists, blank_for, field_room, plan_room, refusal, success}
use Rattle.rules.specs.declared.Answer.{Answer}
use Rattle.rules.proofs.Exact.{reads_of}
use Rattle.rules.proofs.Forms.{accepted_good, good_parts}
use Rattle.rules.proofs.Logic.{by_test}
use Rattle.rules.proofs.Outcomes.{all_read, read_is}
use Rattle.rules.proofs.Plans.{forms_good, no_layout}

-- what the candidate says of each record
abbrev pub read_each : List Form → List (List ℕ) → List (List (Option ℤ))
read_each φs [] = []
read_each φs (rec ∷ recs) = read_all φs rec ∷ read_each φs recs

read_each_lem : (φs : List Form) (recs : List (List ℕ)) → all_good φs ≡ true → AllRead φs recs (read_each φs recs)
read_each_lem φs [] h = tt
read_each_lem φs (rec ∷ recs) h = (all_read φs rec h, read_each_lem φs recs h)

-- the listing of these lines
unfoldable pub listing_of : List (List ℕ) → List ℕ
listing_of [] = layout_line []
listing_of (l ∷ recs) = cond (accepted l) (layout_line l ++ record_lines (forms l) 1 recs (read_each (forms l) recs)) (layout_line l)

lists_lines : (ls : List (List ℕ)) → ListsLines ls (listing_of ls)
unfolding listing_of
lists_lines [] = refl
lists_lines (l ∷ recs) =
    by_test (accepted l) (λ h. rw h (read_each (forms l) recs, read_each_lem (forms l) recs (forms_good l h), refl)) (λ h. rw h refl)

-- What a line is about: an answer, the bytes and the row afterwards, and a test. A number alone stands as the answer's length.
pub record Outcome : Type 0 where
  pub answered : Answer
  pub bytes : List ℕ
  pub row : List ℤ
  pub passed : Bool

abbrev pub outcome : Answer → List ℕ → Outcome
outcome r bytes = record { answered = r; bytes = bytes; row = []; passed = true }

abbrev pub tested : Answer → List ℕ → Bool → Outcome
tested r bytes passed = record { answered = r; bytes = bytes; row = []; passed = passed }

abbrev pub by_plan : Answer → List ℤ → Bool → Outcome
by_plan r row passed = record { answered = r; bytes = []; row = row; passed = passed }

abbrev pub alone : ℕ → Answer
alone n = success n (pos 0)

-- what the definitions make of it
unfoldable pub found : Line → Outcome
found (edits_by w p m q f) = outcome (edit_answer w (text p) m q (blank_for f)) (edit_memory w (text p) m q (blank_for f))
found (refuses_by w p m q n) = outcome (edit_answer w (text p) m q field_room) (edit_memory w (text p) m q field_room)
found (edits_into_by w p m q out r after) = outcome (edit_answer w (text p) m q (text out)) (edit_memory w (text p) m q (text out))
found (reads p f m) = outcome (read_answer (text p) (text f) (read_of (meaning (text p)) (text f))) []
found (rejects p f n) = outcome (read_answer (text p) (text f) (read_of (meaning (text p)) (text f))) []
found (accepts p n) = outcome (check_answer (text p)) []
found (forbids p n) = outcome (check_answer (text p)) []
found (keeps p symbols n) = outcome (alone (picture_of (text p)).count) (picture_of (text p)).symbols
found (compiles l plan) = outcome (compile_answer (text l) (replicate (length plan) 0)) (compile_memory (text l) (replicate (length plan) 0))
found (spoils l n f) = outcome (compile_answer (text l) plan_room) (compile_memory (text l) plan_room)
found (compiles_into l out r after) = outcome (compile_answer (text l) out) (compile_memory (text l) out)
found (plan_reads l rec row r after) =
    let φs = forms (text l) in
    let os = read_all φs (text rec) in
    by_plan (record_answer φs (text rec) (length row) os) (row_after φs (text rec) row os) (accepted (text l))
found (plan_edits l row out r after) =
    let φs = forms (text l) in
    let room = length (text out) in
    tested (row_answer φs row room) (lent_after (row_number φs row room) (record_of φs row) (text out)) (accepted (text l))
found (no_plan b) = tested (alone 0) [] (is_plan b)
found (differs n f m q d) = outcome (alone (apart n f m q)) []
found (packs r n) = outcome (alone (packed r)) []
found (stores row b) = record { answered = alone 0; bytes = row_bytes row; row = row_in (length row) b; passed = true }
found (reads_run p f run r after) =
    let o = read_of (meaning (text p)) (text f) in
    let n = read_run_number (text p) (text f) (length run) o in
    outcome (alone (packed (answer n 0 1 (said o)))) (lent_after n (bytes_of (said o)) run)
found (lists input out) =
    let ls = lines_from [] (text input) in
    tested (alone 0) (listing_of ls) (leb (length (text input)) most_input)

-- what the line says
unfoldable pub says : Line → Outcome
says (edits_by w p m q f) = outcome (success (length (text f)) (pos 0)) (text f)
says (refuses_by w p m q n) = outcome (refusal n 0) field_room
says (edits_into_by w p m q out r after) = outcome r (text after)
says (reads p f m) = outcome (success 1 m) []
says (rejects p f n) = outcome (refusal n 0) []
says (accepts p n) = outcome (success n (pos 0)) []
says (forbids p n) = outcome (refusal n 0) []
says (keeps p symbols n) = outcome (alone n) symbols
says (compiles l plan) = outcome (success (length plan) (pos 0)) plan
says (spoils l n f) = outcome (refusal n f) plan_room
says (compiles_into l out r after) = outcome r after
says (plan_reads l rec row r after) = by_plan r after true
says (plan_edits l row out r after) = tested r (text after) true
says (no_plan b) = tested (alone 0) [] false
says (differs n f m q d) = outcome (alone d) []
says (packs r n) = outcome (alone n) []
says (stores row b) = record { answered = alone 0; bytes = b; row = row; passed = true }
says (reads_run p f run r after) = outcome (alone r) after
says (lists input out) = tested (alone 0) (text out) true

-- A line is computed by opening every definition on the way: a law that says `unfolding definitions` opens all of these.
unfoldable pub definitions : ℕ
unfolding has times place any count same first last each up_to first_of bad_field text_fits next copies expand_from is_punched is_nine is_suppressible is_digit is_first_drifting opens is_static is_b is_sign drifts drifts_sign number numbers suppresses kind_up_to roles_from form_of meaning one_v drifting one_drifts suppression_apart nines_last suppressed_places one_sign statics_placed drifts_before_v form_shape shape whole places digits_fit verdict digits_of value_of in_range rounds_up quotient aligned is_minus has_sign too_big fill mark list_of digit_char printed suppressed cell opening all_suppressible digit_at is_shown first_shown start in_stretch drifts_to cell_at is_blank field edited apart check_answer edit_number edit_answer edit_memory read_answer digit_in shown_in worth_of minus_fits read_of cut closes count_fits accepted forms record_length headers positions plan_of number_over answer_over compile_number compile_answer compile_memory read_before record_answer row_after verdicts_in record_in row_number row_answer read_all lines_from trimmed decimal line answer_line layout_line record_line record_lines packed bits_of int_of le_bytes le_value bytes_of int_in row_bytes row_in read_run_number room_of picture_of plain_number in_order bears one_dollar marks_last fits_room well_made good forms_from forms_in all_good is_plan listing_of found says
definitions = 0

-- Where the two are equal the line holds.

answers : (a b : Outcome) → a ≡ b → a.answered ≡ b.answered
answers a b e = ap (λ (o : Outcome). o.answered) e

numbers_alone : (a b : Outcome) → a ≡ b → a.answered.length ≡ b.answered.length
numbers_alone a b e = ap (λ (o : Outcome). o.answered.length) e

leaves : (a b : Outcome) → a ≡ b → a.bytes ≡ b.bytes
leaves a b e = ap (λ (o : Outcome). o.bytes) e

rows : (a b : Outcome) → a ≡ b → a.row ≡ b.row
rows a b e = ap (λ (o : Outcome). o.row) e

passes : (a b : Outcome) → a ≡ b → a.passed ≡ b.passed
passes a b e = ap (λ (o : Outcome). o.passed) e

reads_by : (t f : List ℕ) (r : Answer) → read_answer t f (read_of (meaning t) f) ≡ r → ReadIs t f r
reads_by t f r e = rw (← e) (read_is t f)

lists_by : (input out : List ℕ) → leb (length input) most_input ≡ true → listing_of (lines_from [] input) ≡ out → Lists input out
lists_by input out h e = rw (h, ← e) (lists_lines (lines_from [] input))

its_plan : (l : List ℕ) → accepted l ≡ true → HasPlan l (plan_of (forms l))
its_plan l h = record { layout = h; plan = refl }

holds : (l : Line) → found l ≡ says l → Holds l
unfolding Holds found says
holds (edits_by w p m q f) e = (answers _ _ e, leaves _ _ e)
holds (refuses_by w p m q n) e = (answers _ _ e, leaves _ _ e)
holds (edits_into_by w p m q out r after) e = (answers _ _ e, leaves _ _ e)
holds (reads p f m) e = reads_by (text p) (text f) _ (answers _ _ e)
holds (rejects p f n) e = reads_by (text p) (text f) _ (answers _ _ e)
holds (accepts p n) e = answers _ _ e
holds (forbids p n) e = answers _ _ e
holds (keeps p symbols n) e = rw (← numbers_alone _ _ e, ← leaves _ _ e)
holds (compiles l plan) e = (answers _ _ e, leaves _ _ e)
holds (spoils l n f) e = (answers _ _ e, leaves _ _ e)
holds (compiles_into l out r after) e = (answers _ _ e, leaves _ _ e)
holds (plan_reads l rec row r after) e =
    let h = passes _ _ e in
    let φs = forms (text l) in
    as_layout (text l) (its_plan (text l) h) (record {
      says = read_all φs (text rec);
      reads = all_read φs (text rec) (forms_good (text l) h);
      gives = sym (answers _ _ e);
      leaves = sym (rows _ _ e);
    })
holds (plan_edits l row out r after) e =
    as_layout (text l) (its_plan (text l) (passes _ _ e)) (record { gives = sym (answers _ _ e); leaves = sym (leaves _ _ e) })
holds (no_plan b) e =
    let no = no_layout b (passes _ _ e) in
    (λ rec row. as_no_plan no (refl, refl), λ row out. as_no_plan no (refl, refl))
holds (differs n f m q d) e = numbers_alone _ _ e
holds (packs r n) e = numbers_alone _ _ e
holds (stores row b) e = (leaves _ _ e, rows _ _ e)
holds (reads_run p f run r after) e = record {
  says = read_of (meaning (text p)) (text f);
  reads = λ v. reads_of (meaning (text p)) (text f) (good_parts (meaning (text p)) (accepted_good (text p) v)).digits;
  gives = sym (numbers_alone _ _ e);
  leaves = sym (leaves _ _ e);
}
holds (lists input out) e = lists_by (text input) (text out) (passes _ _ e) (leaves _ _ e)

pub all_hold : (ls : List Line) → map found ls ≡ map says ls → All ls
unfolding All
all_hold [] e = tt
all_hold (l ∷ ls) e =
    (holds l (ap (λ (os : List Outcome). get_or os 0 (found l)) e), all_hold ls (ap (λ (os : List Outcome). drop 1 os) e))

pub all_join : (ls ms : List Line) → All ls → All ms → All (ls ++ ms)
unfolding All
all_join [] ms a b = b
all_join (l ∷ ls) ms a b = (a.0, all_join ls ms a.1 b)
