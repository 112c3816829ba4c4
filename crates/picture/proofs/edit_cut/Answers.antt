-- `picture::edit_cut` meets its contract: a picture's own refusal leaves the lent memory, and else `edit_picture`
-- edits. Assumes nothing.
use Rattle.std.proofs.lemmas.Result.{err_from_is_err_and}
use Rattle.rules.specs.declared.Rounding.TheVariants.{Cut}
use Rattle.picture.proofs.EditWays.{text_refused}
use Rattle.picture.proofs.edit_cut.Goals as goal

pub returns-in_err-judge-clause-answer : goal.returns-in_err-judge-clause-answer
returns-in_err-judge-clause-answer c =
    let e = err_from_is_err_and c.from_residual.result c.from_residual.ensures.1 in
    rw (e.1, e.2) (text_refused Cut _ c.args.m c.args.q c.args.out.now _ c.in_err-judge.ensures.number).0

pub returns-in_err-judge-clause-memory : goal.returns-in_err-judge-clause-memory
returns-in_err-judge-clause-memory c = (text_refused Cut _ c.args.m c.args.q c.args.out.now _ c.in_err-judge.ensures.number).1
