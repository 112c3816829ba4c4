-- `is_signed` is the definition. Assumes nothing.
use mathlib.Core.Path.{sym, ◌∙◌}
use mathlib.Core.Bool.{or-false, or-true}
use Rattle.rules.specs.Words.{any}
use Rattle.rules.specs.Roles.{is_sign}
use Rattle.rules.specs.Edit.{has_sign}
use Rattle.field.proofs.survey.is_signed.Goals as goal

pub returns-then-sign_drifts : goal.returns-then-sign_drifts
unfolding has_sign
returns-then-sign_drifts c = rw (c.if-sign_drifts.true, sym c.sign_drifts.ensures ∙ c.if-sign_drifts.true) (sym (or-true (any is_sign c.args.form.roles.now)))

pub returns-else-sign_drifts : goal.returns-else-sign_drifts
unfolding has_sign
returns-else-sign_drifts c = rw (c.any_sign.ensures, sym c.sign_drifts.ensures ∙ c.if-sign_drifts.false) (sym (or-false _))
