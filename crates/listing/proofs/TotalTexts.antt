-- The text of a total's line is written part by part as a listing's is, and that of a record refused for its
-- length or for a field that says nothing is the lister's for this record. What a contract asks of a record's
-- line determines it. Assumes nothing.
use mathlib.Core.Path.{◌≡◌, refl, sym, ◌∙◌, ap}
use mathlib.Core.List.{List, [], ◌∷◌, ◌++◌, map}
use mathlib.Core.Logic.{◌⊎◌, ⊎_elim}
use mathlib.Core.Option.{Option}
use mathlib.Core.Bool.{cond}
use Prim.Native.Nat.{ℕ, ◌+◌, ◌≤◌, ◌<◌}
use native.Mathlib.Omega.{arith}
use lib.Dec.{eqb, leb}
use lib.IntN.{ℤ, pos}
use lib.ListN.{length, get_or, length-append}
use borrow.Author.Tests.{eqb-false, ne_eqb, lt-ltb, le-ltb}
use Rattle.std.specs.Prelude.{Some, None, Result, Ok, Err}
use Rattle.rules.specs.declared.Answer.{Answer}
use Rattle.rules.specs.declared.Refusal.{Refusal}
use Rattle.rules.specs.declared.Refusal.TheVariants.{Text, Symbol, Long, Shape, Digits, Value, Room, Size, Length, Conversion, Count, Plan, Input, Full}
use Rattle.rules.specs.declared.Refused.{Refused}
use Rattle.rules.specs.Refusals.{refusal_number, fields_answer}
use Rattle.rules.specs.Numbers.{LENGTH, CONVERSION, first_of, bad_field}
use Rattle.rules.specs.Form.{Form}
use Rattle.rules.specs.Layout.{most_pictures, record_length, forms}
use Rattle.rules.specs.Answers.{unsaid, amounts, number_over, answer_over, read_before, record_answer, as_no_plan, as_layout}
use Rattle.rules.specs.Lister.{decimal, signed_decimal, answer_line, record_line}
use Rattle.rules.proofs.Logic.{by_test}
use Rattle.rules.proofs.Refusing.{refusal_eqb}
use Rattle.totals.specs.declared.Sheet.{Sheet}
use Rattle.totals.specs.Totals.{Added, added_in, most_records, place_numbers, field_numbers, add_before, added_by, record_added, RecordAddIs}
use Rattle.totals.proofs.Columns.{numbers_first}
use Rattle.totals.proofs.Past.{record_add_one}
use Rattle.listing.specs.declared.total.Entered.{Entered}
use Rattle.listing.specs.Put.{Puts, end}
use Rattle.listing.specs.Lines.{most_line, line_length, line_memory, text_of, RecordText}
use Rattle.listing.specs.TotalLines.{refusal_text, refused_line, EnteredIs, row_text, place_text}
use Rattle.listing.proofs.Numerals.{decimal_le}
use Rattle.listing.proofs.Writing.{put_join}
use Rattle.listing.proofs.Commas.{line_is}
use Rattle.listing.proofs.Values.{texts, values_le}
use Rattle.listing.proofs.Texts.{line_in, refusal_text_of}

-- A number and values.

row_is : (n : ℕ) (zs : List ℤ) → row_text n zs ≡ decimal n ++ (texts zs ++ end)
unfolding row_text
row_is n zs = line_is (decimal n) (map signed_decimal zs)

pub row_in : (n : ℕ) (zs : List ℤ) {out mid next after : List ℕ} {p q r : ℕ} → most_line ≤ length out → length zs ≤ 32
    → Puts (decimal n) out 0 mid p → Puts (texts zs) mid p next q → Puts end next q after r
    → (r ≡ line_length (row_text n zs) out) × ((after ≡ line_memory (row_text n zs) out) × (r ≤ length after))
row_in n zs room few f v g =
    rw (row_is n zs) (line_in room (simp length-append (omega (arith, decimal_le n, values_le zs))) (put_join f (put_join v g)))

-- no text, no line
pub no_line : (out : List ℕ) → (0 ≡ line_length [] out) × ((out ≡ line_memory [] out) × (0 ≤ length out))
unfolding line_length line_memory
no_line out = by_test (leb most_line (length out)) (λ e. rw e (refl, (refl, omega arith))) (λ e. rw e (refl, (refl, omega arith)))

-- A field.
module _ (s : Sheet) (i : ℕ) where
  pub place_none : most_pictures ≤ i → [] ≡ place_text s i
  unfolding place_text
  place_none h = rw (le-ltb i most_pictures h)

  pub place_some : i < most_pictures → row_text (i + 1) (get_or s.sums i (pos 0) ∷ get_or s.least i (pos 0) ∷ get_or s.greatest i (pos 0) ∷ []) ≡ place_text s i
  unfolding place_text
  place_some h = rw (lt-ltb i most_pictures h)

-- A refusal says no values, and no refusal has no line.
refusal_only : (k : ℕ) (r : Answer) (more : List (List ℕ)) → (r.number ≡ 0 → ⊥) → refusal_text k r ≡ answer_line k r more
unfolding refusal_text answer_line
refusal_only k r more h = rw (ne_eqb r.number 0 h)

refusal_says : (k : ℕ) (e : Refused) → text_of k (Err e) ≡ refusal_text k (fields_answer (Err e))
unfolding refusal_text
refusal_says k e = rw (refusal_eqb e.refusal) (refusal_text_of k e [])

no_refusal : (k n : ℕ) → refusal_text k (fields_answer (Ok n)) ≡ []
unfolding refusal_text
no_refusal k n = refl

-- A record, by what adding it answers.
module _ (k : ℕ) (b rec : List ℕ) (s t : Sheet) (out : List ℕ) where
  pub entered_none : (n : ℕ) → RecordAddIs b rec s (added_in (record { outcome = Ok n; sheet = t }))
      → EnteredIs k b rec s out (record { refused = None; sheet = t }) out
  entered_none n w =
      record { added = record { outcome = Ok n; sheet = t }; adds = w; gives = refl; leaves = rw (no_refusal k n) (no_line out).1.0 }

  pub entered_some : (e : Refused) (after : List ℕ) (r : ℕ) → RecordAddIs b rec s (added_in (record { outcome = Err e; sheet = t }))
      → r ≡ line_length (text_of k (Err e)) out → after ≡ line_memory (text_of k (Err e)) out
      → EnteredIs k b rec s out (record { refused = Some (record { refusal = e.refusal; line = r }); sheet = t }) after
  entered_some e after r w p q =
      let g = refusal_says k e in
      record { added = record { outcome = Err e; sheet = t }; adds = w; gives = rw (p, g); leaves = q ∙ rw g }

-- Two outcomes of one addition are equal.

by_number : ℕ → Refusal
by_number n = cond (eqb n 1) Text (cond (eqb n 2) Symbol (cond (eqb n 3) Long (cond (eqb n 4) Shape (cond (eqb n 5) Digits (cond (eqb n 6) Value (cond (eqb n 7) Room (cond (eqb n 8) Size (cond (eqb n 9) Length (cond (eqb n 10) Conversion (cond (eqb n 11) Count (cond (eqb n 12) Plan (cond (eqb n 13) Input Full))))))))))))

own_number : (r : Refusal) → by_number (refusal_number r) ≡ r
unfolding by_number
own_number Text = refl
own_number Symbol = refl
own_number Long = refl
own_number Shape = refl
own_number Digits = refl
own_number Value = refl
own_number Room = refl
own_number Size = refl
own_number Length = refl
own_number Conversion = refl
own_number Count = refl
own_number Plan = refl
own_number Input = refl
own_number Full = refl

same_lines : (k : ℕ) (out : List ℕ) (o p : Result ℕ Refused) → fields_answer o ≡ fields_answer p → refused_line k o out ≡ refused_line k p out
same_lines k out (Ok n) (Ok m) h = refl
same_lines k out (Ok n) (Err f) h = absurd (eqb-false (refusal_number f.refusal) 0 (refusal_eqb f.refusal) (sym (ap (λ (a : Answer). a.number) h)))
same_lines k out (Err e) (Ok m) h = absurd (eqb-false (refusal_number e.refusal) 0 (refusal_eqb e.refusal) (ap (λ (a : Answer). a.number) h))
same_lines k out (Err e) (Err f) h =
    let g : e.refusal ≡ f.refusal = sym (own_number e.refusal) ∙ ap (λ (a : Answer). by_number a.number) h ∙ own_number f.refusal in
    let l = ap (λ (a : Answer). line_length (refusal_text k a) out) h in
    rw (l, g)

pub entered_one : (k : ℕ) (b rec : List ℕ) (s : Sheet) (out : List ℕ) (r q : Entered) (x y : List ℕ)
    → EnteredIs k b rec s out r x → EnteredIs k b rec s out q y → (r ≡ q) × (x ≡ y)
entered_one k b rec s out r q x y v w =
    let e = record_add_one b rec s (added_in v.added) (added_in w.added) v.adds w.adds in
    let a = ap (λ (t : Added). t.answer) e in
    let t = ap (λ (t : Added). t.sheet) e in
    let l = same_lines k out v.added.outcome w.added.outcome a in
    (v.gives ∙ rw (l, t) (sym w.gives), v.leaves ∙ rw a (sym w.leaves))

-- Refused for its length or for a field that says nothing, by these pictures: the sheet has no part in such a
-- number.
module _ (φs : List Form) (rec : List ℕ) (s : Sheet) (os : List (Option ℤ)) where
  reads_same : LENGTH ≤ (record_added φs rec s os).answer.number → (record_added φs rec s os).answer.number ≤ CONVERSION
      → (record_added φs rec s os).answer ≡ record_answer φs rec (length φs) os
  unfolding record_added added_by add_before answer_over number_over first_of field_numbers record_answer read_before
  reads_same h l =
      by_test (leb most_records s.count) (λ f. absurd (omega (arith, rw f at l)))
      (λ f.
      by_test (eqb (length rec) (record_length φs))
      (λ g.
      by_test (eqb (first_of (unsaid os)) 0)
      (λ z.
      by_test (eqb (bad_field (place_numbers s.sums (amounts os))) 0)
      (λ y. absurd (omega (arith, rw (f, g, z, numbers_first, y) at h)))
      (λ y. absurd (omega (arith, rw (f, g, z, numbers_first, y) at h))))
      (λ z. rw (f, g, z, le-ltb (length φs) (length φs) (omega arith))))
      (λ g. rw (f, g)))

pub lister_says : (k : ℕ) (b rec : List ℕ) (s : Sheet) (a : Added) → RecordAddIs b rec s a
    → (a.answer.number ≡ LENGTH) ⊎ (a.answer.number ≡ CONVERSION) → RecordText b k rec (refusal_text k a.answer)
unfolding refusal_text record_line
lister_says k b rec s a (as_no_plan n w) h = as_no_plan n (rw w)
lister_says k b rec s a (as_layout l p w) h =
    let low : LENGTH ≤ a.answer.number = ⊎_elim (λ e. omega arith) (λ e. omega arith) h in
    let high : a.answer.number ≤ CONVERSION = ⊎_elim (λ e. omega arith) (λ e. omega arith) h in
    let e = ap (λ (x : Added). x.answer) w.gives ∙ reads_same (forms l) rec s w.says (rw w.gives at low) (rw w.gives at high) in
    as_layout l p (w.says, w.reads, refusal_only k a.answer (map signed_decimal (amounts w.says)) (λ z. omega arith) ∙ rw e)
