-- `picture::check` meets its contract, by the laws of ReadWays. Assumes nothing.
use Rattle.std.proofs.lemmas.Result.{err_from_is_err_and}
use Rattle.picture.proofs.Lent.{size_is}
use Rattle.picture.proofs.ReadWays.{check_refused, check_done}
use Rattle.picture.proofs.check.Goals as goal

pub returns-in_err-form : goal.returns-in_err-form
returns-in_err-form c =
    let p = err_from_is_err_and c.from_residual.result c.from_residual.ensures.1 in rw (p.1, p.2) (check_refused _ _ c.in_err-form.ensures.number)

pub returns : goal.returns
returns c = rw (size_is _ _ c.in_ok-form.ensures.form) (check_done _ c.in_ok-form.ensures.number)
