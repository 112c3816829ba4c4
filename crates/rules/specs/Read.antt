-- RULES 4, from field to value. Assumes nothing.
use Rattle.std.specs.Prelude.{◌≡◌, true, false, List, ℕ, ℤ}
use Rattle.std.proofs.Math.Option.{Option, none, some}
use Rattle.rules.specs.declared.Rounding.{Rounding}
use Rattle.rules.specs.declared.Rounding.TheVariants.{HalfAway}
use Rattle.rules.specs.Form.{Form}
use Rattle.rules.specs.Shape.{places}
use Rattle.rules.specs.Edit.{in_range, too_big, edited}

-- M at scale q edits to the field f, with neither VALUE nor SIZE
pub record Edits (w : Rounding) (φ : Form) (m : ℤ) (q : ℕ) (f : List ℕ) : Type 0 where
  pub value : in_range m q ≡ true
  pub size : too_big w φ m q ≡ false
  pub field : edited w φ m q ≡ f

-- RULES 4.2: the field says the M that is edited to it at the scale f, or nothing, where none is. That the cut says the same is `own_edits` in
-- proofs/Modes.antt.
abbrev pub ReadsAs : Form → List ℕ → Option ℤ → Type 0
ReadsAs φ f (some m) = Edits HalfAway φ m (places φ) f
ReadsAs φ f none = (m : ℤ) → Edits HalfAway φ m (places φ) f → ⊥
