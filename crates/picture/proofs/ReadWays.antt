-- Checking and reading by a text, at each way through it. Assumes nothing.
use Prim.Native.Nat.{ℕ}
use mathlib.Core.Path.{◌≡◌, refl, sym, ◌∙◌}
use mathlib.Core.List.{List, [], ◌∷◌}
use mathlib.Core.Option.{Option, none, some}
use borrow.Author.Tests.{eq-eqb, ne_eqb, le-leb}
use lib.Dec.{eqb}
use lib.IntN.{ℤ, pos}
use lib.ListN.{length}
use Rattle.std.specs.Prelude.{Ok, Err}
use Rattle.std.specs.Option.{ok_or}
use Rattle.std.specs.declared.option.Option.{Option as CodeOption}
use Rattle.rules.specs.declared.Answer.{Answer}
use Rattle.rules.specs.declared.Refusal.{Refusal}
use Rattle.rules.specs.declared.Refusal.TheVariants.{Length, Conversion}
use Rattle.rules.specs.Numbers.{LENGTH, unless, first_of}
use Rattle.rules.specs.Refusals.{refusal_number, length_answer, value_answer}
use Rattle.rules.specs.Form.{size, meaning}
use Rattle.rules.specs.Shape.{most_digits, digit_count, verdict}
use Rattle.rules.specs.Answers.{unread, said, check_answer, read_answer, ReadIs}
use Rattle.rules.specs.Candidate.{read_of, option_of}
use Rattle.rules.proofs.Firsts.{first_here, refuses}
use Rattle.rules.proofs.Forms.{accepted_good, few_digits}
use Rattle.rules.proofs.Outcomes.{read_is}
use Rattle.fieldread.specs.Results.{read_in}
use Rattle.rules.proofs.Refusing.{refusal_some}

module _ (t : List ℕ) where
  pub check_refused : (r : Refusal) → refusal_number r ≡ verdict t → length_answer (Err r) ≡ check_answer t
  unfolding check_answer
  check_refused r e = refuses (refusal_number r) 0 (size (meaning t)) (pos 0) (refusal_some r) ∙ rw e refl

  pub check_done : 0 ≡ verdict t → length_answer (Ok (size (meaning t))) ≡ check_answer t
  unfolding check_answer
  check_done z = rw (← z) refl

module _ (t f : List ℕ) where
  is : (r : Answer) → r ≡ read_answer t f (read_of (meaning t) f) → ReadIs t f r
  is r e = rw e (read_is t f)

  pub read_refused : (r : Refusal) → refusal_number r ≡ verdict t → ReadIs t f (value_answer (Err r))
  unfolding read_answer
  read_refused r e =
      let o = read_of (meaning t) f in
      let ns = unless (eqb (length f) (size (meaning t))) LENGTH ∷ unread o ∷ [] in
      is _ (refuses (refusal_number r) 0 1 (said o) (refusal_some r) ∙ rw (first_here (verdict t) ns (λ z. refusal_some r (e ∙ z)), e) refl)

  module _ (z : 0 ≡ verdict t) where
    pub other_length : (length f ≡ size (meaning t) → ⊥) → ReadIs t f (value_answer (Err Length))
    unfolding read_answer first_of
    other_length n = is _ (rw (← z, ne_eqb (length f) (size (meaning t)) n) refl)

    answers : (o : Option ℤ) → length f ≡ size (meaning t) → value_answer (ok_or (option_of o) Conversion) ≡ read_answer t f o
    unfolding read_answer first_of
    answers none l = rw (← z, eq-eqb (length f) (size (meaning t)) l) refl
    answers (some m) l = rw (← z, eq-eqb (length f) (size (meaning t)) l) refl

    pub read_said : length f ≡ size (meaning t) → (o : CodeOption ℤ) → o ≡ read_in (meaning t) f → ReadIs t f (value_answer (ok_or o Conversion))
    unfolding read_in
    read_said l o e =
        let φ = meaning t in
        let x : o ≡ option_of (read_of φ f) = e ∙ rw (le-leb (digit_count φ) most_digits (few_digits φ (accepted_good t (sym z))), eq-eqb (length f) (size φ) l) refl in
        rw x (is _ (answers (read_of φ f) l))
