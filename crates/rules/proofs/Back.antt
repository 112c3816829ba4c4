-- RULES 4.5 of the calls on a picture, from value to field to value: what `edit` leaves in the lent memory, read by the picture again, gives the aligned value, whatever answer meets the
-- contract of reading. So it is near the value, by the cut no further from zero, and with the other sign its negative. Assumes nothing.
use mathlib.Core.Path.{◌≡◌, refl, sym, ap, ◌∙◌}
use mathlib.Core.List.{List}
use mathlib.Core.Option.{some}
use Prim.Native.Nat.{ℕ, ◌*◌, ◌^◌, ◌≤◌}
use native.Mathlib.Omega.{arith}
use borrow.Author.Tests.{eq-eqb}
use lib.IntN.{ℤ, neg_ℤ, nat_abs}
use lib.ListN.{length, take}
use lib.Seq.{take-append_seam}
use Rattle.rules.specs.declared.Answer.{Answer}
use Rattle.rules.specs.declared.Rounding.{Rounding}
use Rattle.rules.specs.declared.Rounding.TheVariants.{Cut}
use Rattle.rules.specs.Numbers.{SIZE, first_of, when}
use Rattle.rules.specs.Form.{meaning, size}
use Rattle.rules.specs.Shape.{places, verdict}
use Rattle.rules.specs.Edit.{edited, in_range, too_big}
use Rattle.rules.specs.Read.{Edits}
use Rattle.rules.specs.Near.{Near, aligned_value}
use Rattle.rules.specs.Answers.{ReadIs, edit_memory, edit_number, read_answer}
use Rattle.rules.proofs.Fields.{length_field}
use Rattle.rules.proofs.Firsts.{first_zero, unless_zero}
use Rattle.rules.proofs.Forms.{accepted_good, good_parts}
use Rattle.rules.proofs.Logic.{by_test}
use Rattle.rules.proofs.Modes.{cut_never_enlarges, field_says, near, symmetric}
use Rattle.rules.proofs.Outcomes.{read_one}

-- M at scale q has been edited into this memory.
module _ (w : Rounding) (t : List ℕ) (m : ℤ) (q : ℕ) (out : List ℕ) (z : edit_number w t m q (length out) ≡ 0) where
  accepted : verdict t ≡ 0
  unfolding edit_number
  accepted = (first_zero (verdict t) _ z).0

  call_edits : Edits w (meaning t) m q (edited w (meaning t) m q)
  unfolding edit_number
  call_edits =
      let a = first_zero _ _ (first_zero (verdict t) _ z).1 in
      let b = (first_zero (when (too_big w (meaning t) m q) SIZE) _ a.1).0 in
      record {
        value = unless_zero (in_range m q) 5 a.0;
        size = by_test (too_big w (meaning t) m q) (λ e. let x : SIZE ≡ 0 = rw e at b in absurd (omega arith)) (λ e. e);
        field = refl;
      }

  field_length : length (edited w (meaning t) m q) ≡ size (meaning t)
  unfolding edited
  field_length = length_field (meaning t) _ _

  -- the first n bytes are the field
  field_first : take (size (meaning t)) (edit_memory w t m q out) ≡ edited w (meaning t) m q
  unfolding edit_memory
  field_first = rw (z, ← field_length) (take-append_seam (edited w (meaning t) m q) _)

  abbrev back : Answer
  back = record { number = 0; field = 0; length = 1; value = aligned_value w (meaning t) m q }

  right : ReadIs t (edited w (meaning t) m q) back
  unfolding read_answer first_of
  right = record {
    says = some (aligned_value w (meaning t) m q);
    reads = λ v. field_says w (meaning t) m q _ call_edits (good_parts (meaning t) (accepted_good t v)).digits;
    gives = rw (accepted, eq-eqb _ _ field_length);
  }

  -- and reading gives this answer
  module _ (r : Answer) (a : ReadIs t (take (size (meaning t)) (edit_memory w t m q out)) r) where
    pub reads_back : r ≡ back
    reads_back = read_one t (edited w (meaning t) m q) r back (rw field_first at a) right

    value_back : r.value ≡ aligned_value w (meaning t) m q
    value_back = ap (λ (s : Answer). s.value) reads_back

    pub reads_near : (r.number ≡ 0) × Near w r.value (places (meaning t)) m q
    reads_near = (ap (λ (s : Answer). s.number) reads_back, rw value_back (near w (meaning t) m q))

-- by the cut
pub reads_cut : (t : List ℕ) (m : ℤ) (q : ℕ) (out : List ℕ) → edit_number Cut t m q (length out) ≡ 0 → (r : Answer) → ReadIs t (take (size (meaning t)) (edit_memory Cut t m q out)) r
    → nat_abs r.value * 10 ^ q ≤ nat_abs m * 10 ^ places (meaning t)
reads_cut t m q out z r a = rw (value_back Cut t m q out z r a) (cut_never_enlarges (meaning t) m q)

-- both signs
pub reads_turned : (w : Rounding) (t : List ℕ) (m : ℤ) (q : ℕ) (out : List ℕ) → edit_number w t m q (length out) ≡ 0 → edit_number w t (neg_ℤ m) q (length out) ≡ 0
    → (r s : Answer) → ReadIs t (take (size (meaning t)) (edit_memory w t m q out)) r → ReadIs t (take (size (meaning t)) (edit_memory w t (neg_ℤ m) q out)) s → s.value ≡ neg_ℤ r.value
reads_turned w t m q out z y r s a b =
    value_back w t (neg_ℤ m) q out y s b ∙ symmetric w (meaning t) q m ∙ ap neg_ℤ (sym (value_back w t m q out z r a))
