-- The verdict on a text, at each way through its judging. Assumes nothing.
use Prim.Native.Nat.{ℕ, ◌≤◌}
use mathlib.Core.Path.{◌≡◌, refl, sym, ap, ◌∙◌}
use mathlib.Core.Bool.{Bool, true, false, ◌&&◌}
use mathlib.Core.List.{List, [], ◌∷◌}
use native.Mathlib.Omega.{arith}
use borrow.Author.Tests.{leb-true, eq-eqb}
use lib.Dec.{leb}
use lib.ListN.{length, length-take}
use lib.Seq.{take-append_seam}
use Rattle.std.specs.Prelude.{Ok, Err}
use Rattle.rules.specs.declared.Picture.{Picture}
use Rattle.rules.specs.declared.Refusal.{Refusal}
use Rattle.rules.specs.Numbers.{TEXT, SYMBOL, LONG, SHAPE, DIGITS, unless, first_of}
use Rattle.rules.specs.Refusals.{refusal_number, result_number}
use Rattle.rules.specs.Text.{text_fits, is_spelled, symbols_of, most_symbols, room_of, held_in}
use Rattle.rules.specs.Form.{numbers, form_of, meaning}
use Rattle.rules.specs.Shape.{one_v, one_drifts, suppression_apart, form_shape, shape, digits_fit, verdict, picture_of}
use Rattle.rules.specs.Good.{well_made}
use Rattle.rules.proofs.Logic.{both}
use Rattle.rules.proofs.Expand.{spelled, expanded}
use Rattle.rules.proofs.Firsts.{first_zero, unless_zero, first_pass, first_stop}
use Rattle.rules.proofs.Forms.{well_made_lem, one_suppresses, spelled_some}
use Rattle.text.specs.Expansion.{expand_number, expanded_of}
use Rattle.text.proofs.Ways.{expanded_number, expanded_symbols}
use Rattle.shape.specs.declared.Judged.{Judged}
use Rattle.shape.specs.Judge.{judged_of}
use Rattle.shape.proofs.Verdict.{judged_shaped, judged_digits}
use Rattle.picture.specs.Verdicts.{shape_number}
use Rattle.rules.proofs.Refusing.{refusal_some}

both_off : (a b c : Bool) → (a && b) ≡ false → (a && (b && c)) ≡ false
both_off true b c e = rw e
both_off false b c e = refl

pub room_held : (s : List ℕ) → held_in (room_of s) ≡ s
unfolding held_in room_of
room_held s = take-append_seam s _

pub held_length : (picture : Picture) → length picture.symbols ≡ 64 → length (held_in picture) ≤ 64
unfolding held_in
held_length picture e = simp length-take (omega arith)

-- The shape of spelled symbols.
module _ (s : List ℕ) where
  pub many_v : one_v s ≡ false → SHAPE ≡ shape_number s
  unfolding shape_number shape first_of
  many_v e = rw e

  pub many_kinds : one_v s ≡ true → (one_drifts s && suppression_apart s) ≡ false → SHAPE ≡ shape_number s
  unfolding shape_number shape first_of
  many_kinds v e = rw (v, both_off (one_drifts s) (suppression_apart s) (form_shape (form_of s)) e)

  module _ (p : spelled s ≡ true) (l : length s ≤ 64) (v : one_v s ≡ true) (k : (one_drifts s && suppression_apart s) ≡ true) where
    made : well_made (form_of s) ≡ true
    unfolding one_drifts suppression_apart
    made =
        let w = both (one_drifts s) (suppression_apart s) k in
        well_made_lem s p (one_suppresses (numbers s) (leb-true _ 1 w.0) (leb-true _ 1 w.1)) l

    shape_is : shape s ≡ form_shape (form_of s)
    unfolding shape
    shape_is = let w = both (one_drifts s) (suppression_apart s) k in rw (v, w.0, w.1)

    -- what the pass over the roles found decides
    pub judged_number : (j : Judged) → j ≡ judged_of (form_of s) → first_of (unless j.shaped SHAPE ∷ unless j.digits DIGITS ∷ []) ≡ shape_number s
    unfolding shape_number
    judged_number j e =
        let shaped : j.shaped ≡ shape s = ap (λ (x : Judged). x.shaped) e ∙ judged_shaped (form_of s) made ∙ sym shape_is in
        let digits : j.digits ≡ digits_fit (form_of s) = ap (λ (x : Judged). x.digits) e ∙ judged_digits (form_of s) made in
        rw (shaped, digits)

-- The whole text: the first three tests, then the last two.
abbrev Early : List ℕ → List ℕ
Early t = unless (text_fits t) TEXT ∷ unless (is_spelled t) SYMBOL ∷ unless (leb (length (symbols_of t)) most_symbols) LONG ∷ []

abbrev Late : List ℕ → List ℕ
Late t = unless (shape (symbols_of t)) SHAPE ∷ unless (digits_fit (form_of (symbols_of t))) DIGITS ∷ []

module _ (t : List ℕ) where
  number_early : result_number (expanded_of t) ≡ first_of (Early t)
  unfolding expand_number
  number_early = expanded_number t

  -- a refusal before the shape is judged
  pub early : (r : Refusal) → Err r ≡ expanded_of t → refusal_number r ≡ verdict t
  unfolding verdict
  early r e =
      let n : refusal_number r ≡ first_of (Early t) = ap result_number e ∙ number_early in
      n ∙ sym (first_stop (Early t) (Late t) (λ z. refusal_some r (n ∙ z)))

  module _ (picture : Picture) (e : Ok picture ≡ expanded_of t) where
    number_zero : first_of (Early t) ≡ 0
    number_zero = sym number_early ∙ sym (ap result_number e)

    verdict_late : verdict t ≡ shape_number (symbols_of t)
    unfolding verdict shape_number
    verdict_late = first_pass (Early t) (Late t) number_zero

    picture_is : picture ≡ room_of (symbols_of t)
    picture_is = expanded_symbols t picture (sym e)

    pub held_is : held_in picture ≡ symbols_of t
    held_is = rw picture_is (room_held (symbols_of t))

    pub spells : spelled (held_in picture) ≡ true
    spells =
        let a = first_zero _ _ number_zero in
        let b = first_zero _ _ a.1 in
        rw held_is (expanded _ t (symbols_of t) (spelled_some _ (unless_zero _ 1 b.0)))

    -- the number of the shape's judging is the verdict, and where there is none the picture is the text's
    pub late : (n : ℕ) → n ≡ shape_number (held_in picture) → n ≡ verdict t
    late n q = q ∙ ap shape_number held_is ∙ sym verdict_late

    pub passes : 0 ≡ shape_number (held_in picture) → picture ≡ picture_of t
    unfolding picture_of
    passes q = picture_is ∙ rw (eq-eqb (verdict t) 0 (sym (late 0 q))) refl

-- what the symbols of an accepted text mean
pub form_is : (t : List ℕ) (picture : Picture) → 0 ≡ verdict t → picture ≡ picture_of t → form_of (held_in picture) ≡ meaning t
unfolding meaning picture_of
form_is t picture z e = rw (e, eq-eqb (verdict t) 0 (sym z), room_held (symbols_of t))
