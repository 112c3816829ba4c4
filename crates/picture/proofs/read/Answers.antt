-- `picture::read` meets its contract, by the laws of ReadWays. Assumes nothing.
use mathlib.Core.Path.{sym, ◌∙◌}
use Rattle.std.proofs.lemmas.Result.{err_from_is_err_and}
use Rattle.picture.proofs.Lent.{size_is, lent_is}
use Rattle.picture.proofs.ReadWays.{read_refused, other_length, read_said}
use Rattle.picture.proofs.read.Goals as goal

pub returns-in_err-form : goal.returns-in_err-form
returns-in_err-form c =
    let p = err_from_is_err_and c.from_residual.result c.from_residual.ensures.1 in rw (p.1, p.2) (read_refused _ _ _ c.in_err-form.ensures.number)

pub returns-then-field-form : goal.returns-then-field-form
returns-then-field-form c =
    other_length _ _ c.in_ok-form.ensures.number (λ l. c.if-field-form.true (l ∙ sym (size_is _ _ c.in_ok-form.ensures.form)))

pub returns : goal.returns
returns c =
    rw c.ok_or.ensures.value (read_said _ _ c.in_ok-form.ensures.number (c.if-field-form.false ∙ size_is _ _ c.in_ok-form.ensures.form) _
    (rw (lent_is _ _ c.in_ok-form.ensures.form _ c.lent.ensures) at c.read.ensures))
