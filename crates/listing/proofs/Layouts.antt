-- The line of a layout says what compiling it answers. With the longest plan's room lent that never is ROOM,
-- so the line is that of the layout alone; and on success the plan's first byte and its length give the two
-- counts. Assumes nothing.
use mathlib.Core.Path.{◌≡◌, refl, sym, ◌∙◌}
use mathlib.Core.Bool.{true, false, cond, true≢false}
use mathlib.Core.List.{List, [], ◌∷◌, ◌++◌, map}
use Prim.Native.Nat.{ℕ, zero, suc, ◌+◌, ◌-◌, ◌*◌, ◌≤◌}
use native.Mathlib.Omega.{arith}
use lib.Dec.{ltb, eqb}
use lib.IntN.{ℤ, pos}
use lib.ListN.{length, get_or, take, drop, length-append}
use lib.Seq.{take_at}
use borrow.Author.Tests.{le-ltb, eqb-true, eqb-false, eq-eqb, ne_eqb}
use mir.Syntax.{w64}
use mir.Val.{to_z}
use mir.Facts.{to_z_pos}
use Rattle.std.specs.Prelude.{Option as CodeOption, Some, None, Ok, Err}
use Rattle.rules.specs.declared.Answer.{Answer}
use Rattle.rules.specs.declared.Refused.{Refused}
use Rattle.rules.specs.Refusals.{fields_answer}
use Rattle.rules.specs.Numbers.{COUNT, ROOM, when, unless, first_of, bad_field}
use Rattle.rules.specs.Layout.{count_fits, verdicts, accepted, forms, record_length, plan_of, HasPlan}
use Rattle.rules.specs.Answers.{answer, lent_after, number_over, answer_over, compile_number, compile_answer, compile_memory}
use Rattle.rules.specs.Lister.{decimal, signed_decimal, layout_line, answer_line}
use Rattle.rules.proofs.Firsts.{first_zero, first_stop}
use Rattle.rules.proofs.Logic.{by_test}
use Rattle.rules.proofs.Plans.{plan_length, record_le, forms_good, forms_count}
use Rattle.rules.proofs.Refusing.{refusal_eqb}
use Rattle.listing.specs.Lines.{most_plan, line_length, line_memory, text_of, length_in, layout_text, listed_of}
use Rattle.listing.specs.Program.{most_record}
use Rattle.listing.proofs.Texts.{refusal_text_of, values_text_of}

pub record_fits : (l : List ℕ) → accepted l ≡ true → record_length (forms l) ≤ most_record
record_fits l h = omega (arith, record_le (forms l) (forms_good l h), (forms_count l h).1)

pub plan_fits : (l : List ℕ) → accepted l ≡ true → length (plan_of (forms l)) ≤ most_plan
plan_fits l h = omega (arith, plan_length (forms l), record_fits l h, (forms_count l h).1)

-- the refusals of the layout itself, before that for room
abbrev before : List ℕ → List ℕ
before l = unless (count_fits l) COUNT ∷ first_of (verdicts l) ∷ []

refused_before : (l : List ℕ) → accepted l ≡ false → first_of (before l) ≡ 0 → ⊥
unfolding accepted
refused_before l e = eqb-false (first_of (before l)) 0 e

accepted_before : (l : List ℕ) (room : ℕ) → number_over (unless (count_fits l) COUNT) (verdicts l) room ≡ 0 → accepted l ≡ true
unfolding accepted number_over first_of
accepted_before l room h =
    let a = first_zero (unless (count_fits l) COUNT) (first_of (verdicts l) ∷ room ∷ []) h in
    let b = first_zero (first_of (verdicts l)) (room ∷ []) a.1 in
    rw (a.0, b.0)

room_same : (l plan : List ℕ) → most_plan ≤ length plan → compile_answer l plan ≡ compile_answer l (plan_of (forms l))
unfolding compile_answer answer_over number_over
room_same l plan h =
    let n = length (plan_of (forms l)) in
    by_test (accepted l)
    (λ e. let p = plan_fits l e in rw (le-ltb (length plan) n (omega arith), le-ltb n n (omega arith)))
    (λ e.
    let z = refused_before l e in
    rw (first_stop (before l) (when (ltb (length plan) n) ROOM ∷ []) z, first_stop (before l) (when (ltb n n) ROOM ∷ []) z))

pub layout_text_lem : (l plan : List ℕ) → most_plan ≤ length plan → layout_text l plan ≡ layout_line l
unfolding layout_text layout_line
layout_text_lem l plan h = rw (room_same l plan h)

-- With room for its plan the layout alone decides.
accepted_number : (l : List ℕ) (room : ℕ) → length (plan_of (forms l)) ≤ room → accepted l ≡ true → compile_number l room ≡ 0
unfolding accepted compile_number number_over first_of
accepted_number l room r h =
    let a = first_zero (unless (count_fits l) COUNT) (first_of (verdicts l) ∷ []) (eqb-true (first_of (before l)) 0 h) in
    let b = first_zero (first_of (verdicts l)) [] a.1 in
    rw (a.0, b.0, le-ltb room (length (plan_of (forms l))) r)

answer_number : (n field length : ℕ) → (answer n field length (pos 0)).number ≡ n
answer_number zero field length = refl
answer_number (suc n) field length = refl

-- the layout's line says 0 exactly where the layout is accepted
pub layout_number : (l : List ℕ) → eqb (compile_answer l (plan_of (forms l))).number 0 ≡ accepted l
unfolding compile_answer answer_over compile_number
layout_number l =
    let n = length (plan_of (forms l)) in
    let b = unless (count_fits l) COUNT in
    let r = when (ltb n n) ROOM in
    let m = number_over b (verdicts l) r in
    rw (answer_number m (cond (eqb b 0) (bad_field (verdicts l)) 0) n)
    (by_test (accepted l)
    (λ h. rw h (eq-eqb m 0 (accepted_number l n (omega arith) h)))
    (λ h. rw h (ne_eqb m 0 (λ z. true≢false (sym (accepted_before l r z) ∙ h)))))

-- what is known once the layout has been compiled: the answer and the lent plan
pub record Compiled (l : List ℕ) (a : Answer) (plan : List ℕ) : Type 0 where
  pub size : a.length ≡ 3 * length (forms l) + 3 + record_length (forms l)
  pub few : a.length ≤ most_plan
  pub some : 1 ≤ length plan
  pub first : get_or plan 0 0 ≡ length (forms l)

pub compiled : (l plan after : List ℕ) (a : Answer) → a ≡ compile_answer l plan → after ≡ compile_memory l plan → a.number ≡ 0 → Compiled l a after
unfolding compile_answer answer_over compile_memory compile_number plan_of
compiled l plan after a p q h =
    let room = when (ltb (length plan) (length (plan_of (forms l)))) ROOM in
    let n : number_over (unless (count_fits l) COUNT) (verdicts l) room ≡ 0 = sym (answer_number _ _ _) ∙ rw p at h in
    let e = accepted_before l room n in
    record { size = rw (p, n) (plan_length (forms l)); few = rw (p, n) (plan_fits l e); some = rw (q, n) (omega arith); first = rw (q, n) }

-- the plan's bytes lie in the lent plan, refused or not
inside : (n field : ℕ) (bytes plan : List ℕ) → (answer n field (length bytes) (pos 0)).length ≤ length (lent_after n bytes plan)
inside zero field bytes plan = simp length-append (omega arith)
inside (suc n) field bytes plan = omega arith

pub plan_inside : (l plan after : List ℕ) (a : Answer) → a ≡ compile_answer l plan → after ≡ compile_memory l plan → a.length ≤ length after
unfolding compile_answer answer_over compile_memory compile_number
plan_inside l plan after a p q =
    let b = unless (count_fits l) COUNT in
    let n = number_over b (verdicts l) (when (ltb (length plan) (length (plan_of (forms l)))) ROOM) in
    rw (p, q) (inside n (cond (eqb b 0) (bad_field (verdicts l)) 0) (plan_of (forms l)) plan)

-- the two counts, as the code takes them from the plan
pub counts_text : (l plan : List ℕ) (a : Answer) → Compiled l a plan
    → map signed_decimal (to_z w64 (get_or plan 0 0) ∷ to_z w64 (a.length - 3 - 3 * get_or plan 0 0) ∷ []) ≡ decimal (length (forms l)) ∷ decimal (record_length (forms l)) ∷ []
counts_text l plan a d =
    let n = length (forms l) in
    let w = record_length (forms l) in
    let e : a.length - 3 - 3 * get_or plan 0 0 ≡ w = omega (arith, d.size, d.first) in
    rw (e, d.first, to_z_pos w64 {n = n} (omega (arith, d.size, d.few)), to_z_pos w64 {n = w} (omega (arith, d.size, d.few)))

-- the line's length and the lent memory, once the line's text is known
module _ (l plan out after : List ℕ) (r : ℕ) where
  pub listed_taken : (n : ℕ) (zs : List ℤ) → fields_answer (Ok n) ≡ compile_answer l plan
      → map signed_decimal zs ≡ decimal (length (forms l)) ∷ decimal (record_length (forms l)) ∷ []
      → r ≡ line_length (text_of 0 (Ok zs)) out → after ≡ line_memory (text_of 0 (Ok zs)) out
      → (record { plan = Some n; line = r } ≡ listed_of l plan out) × (after ≡ line_memory (layout_text l plan) out)
  unfolding layout_text listed_of
  listed_taken n zs e h p q =
      let t : text_of 0 (Ok zs) ≡ answer_line 0 (fields_answer (Ok n)) (decimal (length (forms l)) ∷ decimal (record_length (forms l)) ∷ []) =
      rw (← h) (values_text_of 0 n zs) in
      rw (← e) (rw (p, t), q ∙ rw t)

  pub listed_refused : (f : Refused) → fields_answer (Err f) ≡ compile_answer l plan
      → r ≡ line_length (text_of 0 (Err f)) out → after ≡ line_memory (text_of 0 (Err f)) out
      → (record { plan = None; line = r } ≡ listed_of l plan out) × (after ≡ line_memory (layout_text l plan) out)
  unfolding layout_text listed_of
  listed_refused f e p q =
      let t = refusal_text_of 0 f (decimal (length (forms l)) ∷ decimal (record_length (forms l)) ∷ []) in
      rw (← e) (rw (p, t, refusal_eqb f.refusal), q ∙ rw t)

no_length : (n field length : ℕ) → (n ≡ 0 → ⊥) → length_in (answer n field length (pos 0)) ≡ None
no_length zero field length h = absurd (h refl)
no_length (suc n) field length h = rw (ne_eqb (suc n) 0 h)

-- What compiling leaves in the longest plan's room: a length exactly where the layout is accepted, and the
-- plan, which stands first.
module _ (l plan : List ℕ) (o : CodeOption ℕ) (room : most_plan ≤ length plan) (p : o ≡ length_in (compile_answer l plan)) where
  taken_plan : accepted l ≡ true → (o ≡ Some (length (plan_of (forms l)))) × (compile_memory l plan ≡ plan_of (forms l) ++ drop (length (plan_of (forms l))) plan)
  unfolding compile_answer answer_over compile_memory compile_number
  taken_plan h =
      let r = when (ltb (length plan) (length (plan_of (forms l)))) ROOM in
      let z : number_over (unless (count_fits l) COUNT) (verdicts l) r ≡ 0 = accepted_number l (length plan) (omega (arith, plan_fits l h)) h in
      (p ∙ rw z, rw z)

  refused_plan : accepted l ≡ false → o ≡ None
  unfolding compile_answer answer_over
  refused_plan h =
      let r = when (ltb (length plan) (length (plan_of (forms l)))) ROOM in
      let b = unless (count_fits l) COUNT in
      p ∙ no_length (number_over b (verdicts l) r) (cond (eqb b 0) (bad_field (verdicts l)) 0) _ (λ z. true≢false (sym (accepted_before l r z) ∙ h))

  pub plan_none : o ≡ None → accepted l ≡ false
  plan_none z = by_test (accepted l) (λ h. absurd (let e = sym z ∙ (taken_plan h).0 in cc)) (λ h. h)

  pub plan_first : (n : ℕ) (after : List ℕ) → o ≡ Some n → after ≡ compile_memory l plan → HasPlan l (take n after)
  plan_first n after s q =
      let b = plan_of (forms l) in
      by_test (accepted l)
      (λ h.
      let w = taken_plan h in
      let m : n ≡ length b = let e = sym s ∙ w.0 in cc in
      record { layout = h; plan = sym (rw (q, w.1, m) (take_at b (drop (length b) plan) (length b) refl)) })
      (λ h. absurd (let e = sym s ∙ refused_plan h in cc))
