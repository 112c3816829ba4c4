-- `picture::verdict::judge` meets its contract: each way through it is a law of Judging. Assumes nothing.
use Rattle.std.proofs.lemmas.Result.{err_from_is_err_and}
use Rattle.picture.proofs.Judging.{early, spells, late, passes}
use Rattle.picture.proofs.verdict.judge.Goals as goal

pub returns-in_err-picture-clause-number : goal.returns-in_err-picture-clause-number
returns-in_err-picture-clause-number c =
    let p = err_from_is_err_and c.from_residual.result c.from_residual.ensures.1 in rw (p.1, p.2) (early _ _ c.in_err-picture.ensures)

pub judge_symbols-requires : goal.judge_symbols-requires
judge_symbols-requires c = spells _ _ c.in_ok-picture.ensures

pub returns-in_err-judge_symbols-clause-number : goal.returns-in_err-judge_symbols-clause-number
returns-in_err-judge_symbols-clause-number c =
    let p = err_from_is_err_and c.from_residual-in_err-judge_symbols.result c.from_residual-in_err-judge_symbols.ensures.1 in
    rw (p.1, p.2) (late _ _ c.in_ok-picture.ensures _ c.in_err-judge_symbols.ensures)

pub returns-clause-number : goal.returns-clause-number
returns-clause-number c = late _ _ c.in_ok-picture.ensures _ c.in_ok-judge_symbols.ensures

pub returns-clause-picture : goal.returns-clause-picture
returns-clause-picture c = passes _ _ c.in_ok-picture.ensures c.in_ok-judge_symbols.ensures
