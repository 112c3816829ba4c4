-- The last two tests of a picture text (RULES 2.14), of its symbols. Assumes nothing.
use Rattle.std.specs.Prelude.{ℕ, List, [], ◌∷◌}
use Rattle.rules.specs.Numbers.{SHAPE, DIGITS, unless, first_of}
use Rattle.rules.specs.Form.{form_of}
use Rattle.rules.specs.Shape.{shape, digits_fit}

unfoldable pub shape_number : List ℕ → ℕ
shape_number s = first_of (unless (shape s) SHAPE ∷ unless (digits_fit (form_of s)) DIGITS ∷ [])
