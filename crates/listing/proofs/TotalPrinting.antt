-- What a program that totals an input prints, from what the calls of this library leave, and what it has
-- added: behind each record the sheet is that of the records so far. It holds the totals of those that were
-- accepted. Assumes nothing.
use mathlib.Core.Path.{◌≡◌, refl, sym, ◌∙◌, ap}
use mathlib.Core.Bool.{◌||◌}
use mathlib.Core.List.{List, [], ◌∷◌}
use Prim.Native.Nat.{ℕ, suc, ◌+◌, ◌≤◌, ◌<◌}
use native.Mathlib.Numerals.{add-one}
use native.Mathlib.Omega.{arith}
use lib.Dec.{eqb}
use lib.ListN.{length, get_or, take}
use borrow.Author.Tests.{ne_eqb, eqb-false, le-leb, lt-leb}
use Rattle.std.specs.Prelude.{Some, None, Result, Ok, Err}
use Rattle.rules.specs.declared.Refused.{Refused}
use Rattle.rules.specs.Refusals.{refusal_number, fields_answer}
use Rattle.rules.specs.Numbers.{SIZE, FULL}
use Rattle.rules.specs.Layout.{plan_of, HasPlan}
use Rattle.rules.specs.Answers.{as_no_plan, as_layout}
use Rattle.rules.specs.Lister.{most_input}
use Rattle.rules.proofs.Logic.{by_test}
use Rattle.rules.proofs.Plans.{forms_count, layout_one}
use Rattle.rules.proofs.Refusing.{refusal_eqb}
use Rattle.totals.specs.declared.Sheet.{Sheet}
use Rattle.totals.specs.Totals.{Added, added_in, empty_sheet, RecordAddIs}
use Rattle.totals.specs.History.{Offer, Went}
use Rattle.listing.specs.declared.total.Entered.{Entered}
use Rattle.listing.specs.declared.total.RefusedLine.{RefusedLine}
use Rattle.listing.specs.Lines.{most_line, line_length, line_memory}
use Rattle.listing.specs.Program.{lines_in, layout_in, ListingLine}
use Rattle.listing.specs.TotalLines.{count_text, place_text, refusal_text, refused_line, EnteredIs}
use Rattle.listing.specs.TotalProgram.{fields_in, refused_one, limit_of, Adds, Adding, Totalled, TotalLine}
use Rattle.listing.proofs.Printing.{line_first}

-- the first line, which is the lister's
pub layout_of : (s text : List ℕ) → length s ≤ most_input → ListingLine s 0 text → TotalLine s text
layout_of s text h w = let e = rw (le-leb (length s) most_input h) at w in rw e (TotalLine.layout h)

pub over_of : (s text : List ℕ) → most_input < length s → ListingLine s 0 text → TotalLine s text
over_of s text h w = let e = (rw (lt-leb (length s) most_input h) at w).1 in rw e (TotalLine.over h)

-- What an addition that came to nothing, or to a refusal, has answered.
taken_number : (k : ℕ) (out : List ℕ) (o : Result ℕ Refused) → refused_line k o out ≡ None → (fields_answer o).number ≡ 0
taken_number k out (Ok n) h = refl
taken_number k out (Err e) h = absurd cc

refused_number : (k : ℕ) (out : List ℕ) (o : Result ℕ Refused) (x : RefusedLine) → refused_line k o out ≡ Some x
    → ((fields_answer o).number ≡ refusal_number x.refusal) × (x.line ≡ line_length (refusal_text k (fields_answer o)) out)
refused_number k out (Ok n) x h = absurd cc
refused_number k out (Err e) x h =
    let q : record { refusal = e.refusal; line = line_length (refusal_text k (fields_answer (Err e))) out } ≡ x = cc in
    (ap (λ (y : RefusedLine). refusal_number y.refusal) q, sym (ap (λ (y : RefusedLine). y.line) q))

pub taken_one : (n number : ℕ) → number ≡ 0 → (n ≡ n + refused_one number) × (0 ≡ limit_of number)
unfolding refused_one limit_of
taken_one n number h = rw h (omega arith, refl)

pub refused_one_lem : (n number : ℕ) → (number ≡ 0 → ⊥) → n + 1 ≡ n + refused_one number
unfolding refused_one
refused_one_lem n number h = rw (ne_eqb number 0 h)

-- By the plan of the input's layout.
module _ (s plan : List ℕ) (p : HasPlan (layout_in s) plan) where
  pub plan_fields : (1 ≤ length plan) × ((get_or plan 0 0 ≡ fields_in s) × (fields_in s ≤ 32))
  unfolding plan_of
  plan_fields = rw (← p.plan) (omega arith, (refl, (forms_count (layout_in s) p.layout).1))

  adds_of : (k : ℕ) (t : Sheet) (a : Added) → k < length (lines_in s) → RecordAddIs plan (get_or (lines_in s) k []) t a → Adds s k t a
  adds_of k t a there (as_no_plan n w) = absurd (n (layout_in s) p)
  adds_of k t a there (as_layout m g w) = record { there = there; adds = rw (layout_one plan (layout_in s) m p g) w }

  pub none_added : length s ≤ most_input → Adding s 0 0 0 empty_sheet
  none_added h = Adding.begun h p.layout

  -- The next record, by its line's contract.
  module _ (k n : ℕ) (t : Sheet) (rec out : List ℕ) (r : Entered) (after : List ℕ) (g : Adding s k n 0 t) (there : k + 1 < length (lines_in s))
      (e : get_or (lines_in s) (k + 1) [] ≡ rec) (w : EnteredIs (k + 1) plan rec t out r after) where
    adds_next : Adds s (suc k) t (added_in w.added)
    adds_next = rw (← add-one k) (adds_of (k + 1) t (added_in w.added) there (rw e w.adds))

    refused_is : refused_line (k + 1) w.added.outcome out ≡ r.refused
    refused_is = sym (ap (λ (x : Entered). x.refused) w.gives)

    sheet_is : r.sheet ≡ w.added.sheet
    sheet_is = ap (λ (x : Entered). x.sheet) w.gives

    pub added_next : r.refused ≡ None → Adding s (k + 1) n 0 r.sheet
    added_next h =
        let z : (fields_answer w.added.outcome).number ≡ 0 = taken_number (k + 1) out w.added.outcome (refused_is ∙ h) in
        let c = taken_one n (fields_answer w.added.outcome).number z in
        rw (sheet_is, c.0, c.1, add-one k) (Adding.further g (added_in w.added) adds_next)

    -- a refused one, and its line
    module _ (x : RefusedLine) (h : r.refused ≡ Some x) where
      refusal_is : ((fields_answer w.added.outcome).number ≡ refusal_number x.refusal) × (x.line ≡ line_length (refusal_text (k + 1) (fields_answer w.added.outcome)) out)
      refusal_is = refused_number (k + 1) out w.added.outcome x (refused_is ∙ h)

      pub refused_next : (stop : ℕ) → stop ≡ limit_of (refusal_number x.refusal) → Adding s (k + 1) (n + 1) stop r.sheet
      refused_next stop y =
          let m = (fields_answer w.added.outcome).number in
          let c = refused_one_lem n m (λ z. eqb-false (refusal_number x.refusal) 0 (refusal_eqb x.refusal) (sym refusal_is.0 ∙ z)) in
          rw (sheet_is, c, y, ← refusal_is.0, add-one k) (Adding.further g (added_in w.added) adds_next)

      pub refused_printed : most_line ≤ length out → TotalLine s (take x.line after)
      refused_printed room =
          let l = line_first (refusal_text (k + 1) (fields_answer w.added.outcome)) out after x.line room refusal_is.1 w.leaves in
          let z = λ (q : (fields_answer w.added.outcome).number ≡ 0). eqb-false (refusal_number x.refusal) 0 (refusal_eqb x.refusal) (sym refusal_is.0 ∙ q) in
          rw (l, add-one k) (TotalLine.refused g (added_in w.added) adds_next z)

pub stop_limit : (s : List ℕ) (k n stop : ℕ) (t : Sheet) → Adding s k n stop t → stop ≡ limit_of stop
unfolding limit_of
stop_limit s k n stop t (Adding.begun h l) = refl
stop_limit s k n stop t (Adding.further g a w) =
    let number = a.answer.number in
    by_test (eqb number FULL || eqb number SIZE) (λ e. rw (e, e)) (λ e. rw e)

-- The totals.
module _ (s : List ℕ) {k n stop : ℕ} {t : Sheet} (w : Totalled s k n stop t) (out after : List ℕ) (r : ℕ) (room : most_line ≤ length out) where
  pub count_printed : r ≡ line_length (count_text t.count) out → after ≡ line_memory (count_text t.count) out → TotalLine s (take r after)
  count_printed p q = rw (line_first (count_text t.count) out after r room p q) (TotalLine.count w)

  pub field_printed : (i : ℕ) → i < fields_in s → r ≡ line_length (place_text t i) out → after ≡ line_memory (place_text t i) out → TotalLine s (take r after)
  field_printed i l p q = rw (line_first (place_text t i) out after r room p q) (TotalLine.field w i l)

-- RULES 9.8 holds of the sheet: it is one that additions under the layout's plan have left.
pub went : (s b : List ℕ) → HasPlan (layout_in s) b → (k n stop : ℕ) (t : Sheet) → Adding s k n stop t → (h : List Offer) × Went b h t
went s b p k n stop t (Adding.begun h l) = ([], Went.begun)
went s b p k n stop t (Adding.further {k = j} {n = m} {t = u} g a w) =
    let rec = get_or (lines_in s) (suc j) [] in
    let x = went s b p j m 0 u g in
    (record { batch = rec; place = 0; number = a.answer.number } ∷ x.0, Went.alone x.1 rec a (as_layout (layout_in s) p w.adds))
