-- `read`: no value, or what the digits shown say. Assumes nothing.
use mathlib.Core.Path.{◌∙◌}
use Rattle.rules.specs.Form.{form_in}
use Rattle.fieldread.proofs.Cases.{reads_in, reads_none}
use Rattle.fieldread.proofs.read.Goals as goal

pub returns-in_err-new : goal.returns-in_err-new
returns-in_err-new c = c.from_residual.ensures ∙ reads_none (form_in c.args.form) _ (c.in_err-new.ensures)

pub returns : goal.returns
returns c =
    let v = c.in_ok-new.field-0 in
    let e = c.in_ok-new.ensures in
    rw (← e.0, ← e.1) (c.value.ensures ∙ reads_in (form_in v.form) _ v.long v.few)
