-- Editing by a text, at each way through it; and what a field leaves in the lent memory. Assumes nothing.
use Prim.Native.Nat.{ℕ, ◌^◌, ◌<◌, ◌≤◌}
use mathlib.Core.Path.{◌≡◌, refl, sym, ◌∙◌}
use mathlib.Core.Bool.{and-false}
use mathlib.Core.List.{List, [], ◌∷◌, ◌++◌}
use borrow.Author.Tests.{lt-leb, lt-ltb, le-ltb}
use lib.Dec.{ltb}
use lib.IntN.{ℤ, pos, nat_abs}
use lib.ListN.{length}
use Rattle.std.specs.Prelude.{Result, Ok, Err}
use Rattle.rules.specs.declared.Refusal.{Refusal}
use Rattle.rules.specs.declared.Refusal.TheVariants.{Value, Room}
use Rattle.rules.specs.declared.Rounding.{Rounding}
use Rattle.rules.specs.Numbers.{VALUE, SIZE, ROOM, when, unless, first_of}
use Rattle.rules.specs.Refusals.{refusal_number, length_answer}
use Rattle.rules.specs.Form.{Form, size, meaning}
use Rattle.rules.specs.Shape.{most_digits, digit_count, verdict}
use Rattle.rules.specs.Edit.{most_scale, in_range, too_big, edited}
use Rattle.rules.specs.Answers.{edit_number, edit_answer, edit_memory}
use Rattle.rules.proofs.Firsts.{first_here, first_next, first_pass, first_stop, refuses, lent_kept}
use Rattle.rules.proofs.Fields.{length_field}
use Rattle.rules.proofs.Forms.{accepted_good, few_digits}
use Rattle.copying.specs.Copy.{copied}
use Rattle.copying.proofs.Copies.{copied_front}
use Rattle.roles.specs.Table.{characters}
use Rattle.field.specs.Results.{field_by}
use Rattle.field.proofs.Field.{field_by_lem}
use Rattle.decimal.specs.declared.sign.Signed.{Signed}
use Rattle.value.specs.Settling.{settled_of}
use Rattle.value.proofs.Laws.{settled_refused, settled_none, settled_minus, settled_t, settled_small}
use Rattle.rules.proofs.Refusing.{refusal_some}

module _ (w : Rounding) (t : List ℕ) (m : ℤ) (q : ℕ) (out : List ℕ) where
  -- what comes back, and the lent memory after it, are those of the rules
  abbrev pub EditIs : Result ℕ Refusal → List ℕ → Type 0
  EditIs r after = (length_answer r ≡ edit_answer w t m q out) × (after ≡ edit_memory w t m q out)

  refused : (r : Refusal) → edit_number w t m q (length out) ≡ refusal_number r → EditIs (Err r) out
  unfolding edit_answer edit_memory
  refused r e =
      let n = refusal_some r in
      (rw e (refuses (refusal_number r) 0 (size (meaning t)) (pos 0) n), rw e (sym (lent_kept (refusal_number r) (edited w (meaning t) m q) out n)))

  pub text_refused : (r : Refusal) → refusal_number r ≡ verdict t → EditIs (Err r) out
  unfolding edit_number
  text_refused r e = refused r (first_here (verdict t) _ (λ z. refusal_some r (e ∙ z)) ∙ sym e)

  -- the text is accepted
  module _ (z : 0 ≡ verdict t) where
    abbrev φ : Form
    φ = meaning t

    abbrev settling : List ℕ
    settling = unless (in_range m q) VALUE ∷ when (too_big w φ m q) SIZE ∷ []

    behind : edit_number w t m q (length out) ≡ first_of (settling ++ (when (ltb (length out) (size φ)) ROOM ∷ []))
    unfolding edit_number
    behind = first_next (verdict t) _ (sym z)

    pub scale_refused : most_scale < q → EditIs (Err Value) out
    unfolding in_range first_of
    scale_refused l = refused Value (behind ∙ rw (lt-leb q most_scale l, and-false (ltb (nat_abs m) (10 ^ most_digits))) refl)

    few : digit_count φ ≤ most_digits
    few = few_digits φ (accepted_good t (sym z))

    -- VALUE or SIZE
    pub not_settled : (r : Refusal) → Err r ≡ settled_of w φ m q → EditIs (Err r) out
    not_settled r e =
        let n : refusal_number r ≡ first_of settling = settled_refused w φ m q few r e in
        refused r (behind ∙ first_stop settling _ (λ y. refusal_some r (n ∙ y)) ∙ sym n)

    module _ (s : Signed) (e : Ok s ≡ settled_of w φ m q) where
      room_number : edit_number w t m q (length out) ≡ first_of (when (ltb (length out) (size φ)) ROOM ∷ [])
      room_number = behind ∙ first_pass settling _ (settled_none w φ m q few s e)

      pub no_room : length out < size φ → EditIs (Err Room) out
      unfolding first_of
      no_room l = refused Room (room_number ∙ rw (lt-ltb (length out) (size φ) l) refl)

      field_is : field_by characters φ s.negative s.magnitude ≡ edited w φ m q
      unfolding edited
      field_is =
          field_by_lem φ s.negative s.magnitude (settled_small w φ m q few s e) ∙ rw (settled_minus w φ m q few s e, settled_t w φ m q few s e) refl

      size_is : length (edited w φ m q) ≡ size φ
      unfolding edited
      size_is = length_field φ _ _

      pub done : size φ ≤ length out → (table : List ℕ) → table ≡ characters → (after : List ℕ) → after ≡ copied (field_by table φ s.negative s.magnitude) 0 out
          → EditIs (Ok (size φ)) after
      unfolding edit_answer edit_memory first_of
      done l table c after x =
          let h : length (edited w φ m q) ≤ length out = rw size_is l in
          (rw (room_number, le-ltb (length out) (size φ) l) refl, rw (room_number, le-ltb (length out) (size φ) l) (x ∙ rw (c, field_is) (copied_front (edited w φ m q) out h)))
