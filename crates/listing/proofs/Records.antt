-- The line of a record says what reading the record by the plan answers: its number and field, and on success
-- the row's values. What the line's contract asks determines it: two lines that meet it are equal. Assumes
-- nothing.
use mathlib.Core.Path.{◌≡◌, refl, sym, ◌∙◌, ap}
use mathlib.Core.Bool.{cond}
use mathlib.Core.List.{List, map}
use mathlib.Core.Option.{Option}
use Prim.Native.Nat.{ℕ, zero, suc, ◌≤◌}
use native.Mathlib.Nat.{le_trans}
use native.Mathlib.Omega.{arith}
use lib.Dec.{eqb}
use lib.IntN.{ℤ, pos}
use lib.ListN.{length, take, drop, length-map}
use lib.Seq.{take_at}
use borrow.Author.Tests.{le-ltb, ne_eqb}
use Rattle.std.specs.Prelude.{Ok, Err}
use Rattle.rules.specs.declared.Answer.{Answer}
use Rattle.rules.specs.declared.Refused.{Refused}
use Rattle.rules.specs.Refusals.{fields_answer}
use Rattle.rules.specs.Numbers.{bad_field}
use Rattle.rules.specs.Form.{Form}
use Rattle.rules.specs.Layout.{forms, HasPlan}
use Rattle.rules.specs.Answers.{answer, lent_after, said, unread, number_over, answer_over, RecordReads, read_before, record_answer, row_after, RecordIs, as_no_plan, as_layout, PlanReadIs}
use Rattle.rules.specs.Lister.{signed_decimal, answer_line, record_line}
use Rattle.rules.proofs.Plans.{forms_count, layout_one}
use Rattle.rules.proofs.Outcomes.{one_outcome, reads_count, record_reads_one}
use Rattle.listing.specs.Lines.{line_length, line_memory, text_of, RecordText, RecordLineIs}
use Rattle.listing.proofs.Texts.{refusal_text_of, values_text_of}

-- a row with room for every field is as good as one of just their number
same_room : (φs : List Form) (rec : List ℕ) (m n : ℕ) → length φs ≤ m → length φs ≤ n → read_before φs rec m ≡ read_before φs rec n
unfolding read_before
same_room φs rec m n h g = rw (le-ltb m (length φs) h, le-ltb n (length φs) g)

-- the answer's length counts the values that have been written
spoken : (k n field : ℕ) (values row : List ℤ)
    → answer_line k (answer n field (length values) (pos 0)) (map signed_decimal (take (answer n field (length values) (pos 0)).length (lent_after n values row)))
    ≡ answer_line k (answer n field (length values) (pos 0)) (map signed_decimal values)
unfolding answer_line
spoken k zero field values row = rw (take_at values (drop (length values) row) (length values) refl)
spoken k (suc n) field values row = rw (ne_eqb (suc n) 0 (λ h. omega arith))

module _ (φs : List Form) (rec : List ℕ) (row : List ℤ) (few : length φs ≤ length row) where
  read_text : (k : ℕ) (r : Answer) (after : List ℤ) (w : RecordIs φs rec row r after) → answer_line k r (map signed_decimal (take r.length after)) ≡ record_line φs k rec w.says
  unfolding record_answer answer_over row_after record_line
  read_text k r after w =
      let os = w.says in
      let n : length φs ≡ length (map said os) = sym (length-map os said ∙ reads_count φs rec os w.reads) in
      rw (w.gives, w.leaves, ← same_room φs rec (length row) (length φs) few (omega arith), n)
      (let b = read_before φs rec (length row) in
      spoken k (number_over b (map unread os) 0) (cond (eqb b 0) (bad_field (map unread os)) 0) (map said os) row)

pub record_text : (b rec : List ℕ) (k : ℕ) (row : List ℤ) (r : Answer) (after : List ℤ) → length row ≡ 32 → PlanReadIs b rec row r after
    → RecordText b k rec (answer_line k r (map signed_decimal (take r.length after)))
unfolding answer_line
record_text b rec k row r after h (as_no_plan n w) = as_no_plan n (rw w.0)
record_text b rec k row r after h (as_layout l p w) =
    as_layout l p (w.says, w.reads, read_text (forms l) rec row (omega (arith, (forms_count l p.layout).1)) k r after w)

-- of what reading has answered, a row of values or a refusal
pub text_taken : (b rec : List ℕ) (k : ℕ) (row : List ℤ) (n : ℕ) (after : List ℤ) → length row ≡ 32 → PlanReadIs b rec row (fields_answer (Ok n)) after
    → RecordText b k rec (text_of k (Ok (take n after)))
text_taken b rec k row n after h w = rw (values_text_of k n (take n after)) (record_text b rec k row (fields_answer (Ok n)) after h w)

pub text_refused : (b rec : List ℕ) (k : ℕ) (row : List ℤ) (e : Refused) (after : List ℤ) → length row ≡ 32 → PlanReadIs b rec row (fields_answer (Err e)) after
    → RecordText b k rec (text_of k (Err e))
text_refused b rec k row e after h w =
    let r = fields_answer (Err e) in
    rw (refusal_text_of k e (map signed_decimal (take r.length after))) (record_text b rec k row r after h w)

-- no more values than the row holds
length_le : (n field length : ℕ) → (answer n field length (pos 0)).length ≤ length
length_le zero field length = omega arith
length_le (suc n) field length = omega arith

over_le : (before : ℕ) (fields : List ℕ) (behind length : ℕ) → (answer_over before fields behind length).length ≤ length
unfolding answer_over
over_le before fields behind length = length_le (number_over before fields behind) (cond (eqb before 0) (bad_field fields) 0) length

pub record_few : (b rec : List ℕ) (row : List ℤ) (r : Answer) (after : List ℤ) → PlanReadIs b rec row r after → r.length ≤ 32
unfolding record_answer
record_few b rec row r after (as_no_plan n w) = rw w.0 (omega arith)
record_few b rec row r after (as_layout l p w) =
    rw w.gives (le_trans (over_le (read_before (forms l) rec (length row)) (map unread w.says) 0 (length (forms l))) (forms_count l p.layout).1)

-- One line.
pub record_text_one : (b rec : List ℕ) (k : ℕ) (t u : List ℕ) → RecordText b k rec t → RecordText b k rec u → t ≡ u
record_text_one b rec k t u =
    one_outcome b (λ p q. p ∙ sym q) (λ φs h p q. p.2 ∙ rw (record_reads_one φs rec h p.0 q.0 p.1 q.1) (sym q.2))

pub record_line_one : (k : ℕ) (b rec out : List ℕ) (r s : ℕ) (x y : List ℕ) → RecordLineIs k b rec out r x → RecordLineIs k b rec out s y → (r ≡ s) × (x ≡ y)
record_line_one k b rec out r s x y a c =
    let e = record_text_one b rec k a.text c.text a.says c.says in (
      a.answers ∙ ap (λ (t : List ℕ). line_length t out) e ∙ sym c.answers,
      a.leaves ∙ ap (λ (t : List ℕ). line_memory t out) e ∙ sym c.leaves,
    )

-- by the plan of an accepted layout the line is that of the layout's own pictures
pub record_line_of : (l b rec : List ℕ) (k : ℕ) (t : List ℕ) → HasPlan l b → RecordText b k rec t → (os : List (Option ℤ)) × RecordReads (forms l) rec os × (t ≡ record_line (forms l) k rec os)
record_line_of l b rec k t h (as_no_plan n p) = absurd (n l h)
record_line_of l b rec k t h (as_layout m g p) = rw (layout_one b l m h g) p
