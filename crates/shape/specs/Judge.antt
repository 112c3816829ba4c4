-- Beyond RULES: what the pass over a form's roles finds, by the names of the rules. Assumes nothing.
use Rattle.std.specs.Prelude.{Bool, false, cond, ◌&&◌, leb}
use Rattle.rules.specs.Text.{most_symbols}
use Rattle.rules.specs.Form.{Form, size}
use Rattle.rules.specs.Shape.{digits_fit, form_shape}
use Rattle.rules.specs.Good.{bears, in_order, marks_last, one_dollar}
use Rattle.shape.specs.declared.Judged.{Judged}

-- the rules that speak of the roles, their kind and V: those of shape, and those that tell the forms that
-- accepted pictures have
unfoldable pub ruled : Form → Bool
ruled φ =
    in_order (leb φ.kind 2) φ.roles && (bears φ.kind φ.roles && (one_dollar φ && (marks_last φ.vee φ.roles && form_shape φ)))

-- what the pass finds of a form; of one too long for any picture, nothing good
unfoldable pub judged_of : Form → Judged
judged_of φ =
    cond (leb (size φ) most_symbols)
    (record { shaped = ruled φ; digits = digits_fit φ })
    (record { shaped = false; digits = false })
