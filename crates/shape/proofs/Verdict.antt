-- What the two findings say: of a plan's field whether its form is good, of a picture, whose form is well
-- made, its shape and its digits. The findings are the rules themselves, so that this is a matter of and.
-- Assumes nothing.
use Prim.Native.Nat.{ℕ, ◌+◌, ◌≤◌}
use mathlib.Core.Path.{◌≡◌}
use mathlib.Core.Bool.{true, ◌&&◌, and-false, and_assoc, and-true}
use native.Mathlib.Omega.{arith}
use borrow.Author.Tests.{leb-true, le-leb}
use lib.Dec.{leb, ltb}
use Rattle.rules.specs.Words.{one}
use Rattle.rules.specs.Text.{most_symbols}
use Rattle.rules.specs.Roles.{last_kind}
use Rattle.rules.specs.Form.{Form, size}
use Rattle.rules.specs.Shape.{digits_fit, form_shape}
use Rattle.rules.specs.Good.{bears, fits_room, good, in_order, marks_last, one_dollar, well_made}
use Rattle.rules.proofs.Logic.{both, by_test}
use Rattle.shape.specs.Judge.{judged_of, ruled}

room_size : (n v : ℕ) → fits_room n v ≡ true → n ≤ most_symbols
unfolding fits_room
room_size n v e = omega (arith, leb-true (n + one (ltb v n)) most_symbols (both (leb v n) _ e).1)

module _ (φ : Form) where
  -- a form that fits its room is not too long to be judged
  judged_in : fits_room (size φ) φ.vee ≡ true → judged_of φ ≡ record { shaped = ruled φ; digits = digits_fit φ }
  unfolding judged_of
  judged_in f = rw (le-leb (size φ) most_symbols (room_size (size φ) φ.vee f))

  pub judged_good : (leb φ.kind last_kind && (fits_room (size φ) φ.vee && ((judged_of φ).shaped && (judged_of φ).digits))) ≡ good φ
  unfolding good well_made ruled
  judged_good = by_test (fits_room (size φ) φ.vee) (λ f. rw (judged_in f, f) (simp (and_assoc, and-true))) (λ f. rw f (simp and-false))

  module _ (w : well_made φ ≡ true) where
    made_parts : (fits_room (size φ) φ.vee ≡ true) × (ruled φ ≡ form_shape φ)
    unfolding well_made ruled
    made_parts =
        let k = (both (leb φ.kind last_kind) _ w).1 in
        let o = both (in_order (leb φ.kind 2) φ.roles) _ k in
        let b = both (bears φ.kind φ.roles) _ o.1 in
        let d = both (one_dollar φ) _ b.1 in
        let m = both (marks_last φ.vee φ.roles) _ d.1 in
        (m.1, rw (o.0, b.0, d.0, m.0))

    pub judged_shaped : (judged_of φ).shaped ≡ form_shape φ
    judged_shaped = rw (judged_in made_parts.0, made_parts.1)

    pub judged_digits : (judged_of φ).digits ≡ digits_fit φ
    judged_digits = rw (judged_in made_parts.0)
