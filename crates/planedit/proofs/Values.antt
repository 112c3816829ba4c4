-- One field and its value: the number of the value at the field's own scale is the one that the rules give
-- the field, and of a value that is not refused the field is written. Assumes nothing.
use mathlib.Core.Path.{◌≡◌, sym, ◌∙◌}
use mathlib.Core.Bool.{true}
use mathlib.Core.List.{List}
use Prim.Native.Nat.{ℕ, ◌+◌, ◌≤◌}
use native.Mathlib.Omega.{arith}
use lib.IntN.{ℤ, nat_abs}
use lib.ListN.{length}
use lib.Seq.{sets}
use Rattle.rules.specs.Form.{Form, size}
use Rattle.rules.specs.Shape.{places}
use Rattle.rules.specs.declared.Rounding.TheVariants.{HalfAway}
use Rattle.rules.specs.Edit.{edited, is_negative}
use Rattle.rules.specs.Good.{good}
use Rattle.rules.specs.Answers.{field_number, field_of}
use Rattle.rules.specs.Powers.{powers}
use Rattle.rules.proofs.Exact.{own_edited}
use Rattle.rules.proofs.Fields.{length_field}
use Rattle.rules.proofs.Forms.{few_digits, good_parts}
use Rattle.copying.specs.Copy.{copied}
use Rattle.copying.proofs.Copies.{copied_in}
use Rattle.roles.specs.Table.{characters}
use Rattle.field.specs.Results.{field_by}
use Rattle.field.proofs.Field.{field_by_lem}
use Rattle.value.specs.Settling.{own_number}
use Rattle.value.proofs.Laws.{not_big}
use Rattle.value.proofs.OwnScale.{own_fits, own_number_is}

pub edited_size : (φ : Form) (m : ℤ) → length (field_of φ m) ≡ size φ
unfolding edited
edited_size φ m = length_field φ _ _

module _ (φ : Form) (m : ℤ) where
  pub number_is : good φ ≡ true → own_number powers φ m ≡ field_number φ m
  number_is g = own_number_is φ m (omega (arith, (good_parts φ g).size)) (few_digits φ g)

  -- the sign and the magnitude are the value's own
  made : field_number φ m ≡ 0 → field_by characters φ (is_negative m) (nat_abs m) ≡ field_of φ m
  made z = field_by_lem φ (is_negative m) (nat_abs m) (own_fits φ m (not_big HalfAway φ m (places φ) z)) ∙ sym (own_edited φ HalfAway m)

  -- and where there is room the field stands there
  pub put_is : field_number φ m ≡ 0 → (from : ℕ) (out after : List ℕ) → from + size φ ≤ length out
      → after ≡ copied (field_by characters φ (is_negative m) (nat_abs m)) from out → after ≡ sets out from (field_of φ m)
  put_is z from out after h q =
      let n : length (field_of φ m) ≡ size φ = edited_size φ m in
      q ∙ rw (made z) (copied_in (field_of φ m) out from (rw n h))
