-- `layout::compile` meets its contract: each way through it is a law of Ways. Assumes nothing.
use mathlib.Core.Path.{sym, ◌∙◌}
use native.Mathlib.Omega.{arith}
use Rattle.std.proofs.lemmas.Result.{err_from_is_err_and}
use Rattle.layout.proofs.Ways.{not_counted, few_pictures, bad_picture, plan_small, no_room, settled, done}
use Rattle.layout.proofs.compile.Goals as goal

pub returns-then-not-count_fits : goal.returns-then-not-count_fits
returns-then-not-count_fits c =
    let w = not_counted _ c.args.plan.now (sym c.count_fits.ensures ∙ c.if-not-count_fits.true) in
    record { answer = rw c.from.ensures w.0; memory = w.1 }

pub measure-requires : goal.measure-requires
measure-requires c = few_pictures _ (sym c.count_fits.ensures ∙ c.if-not-count_fits.false)

pub returns-in_err-extent : goal.returns-in_err-extent
returns-in_err-extent c =
    let p = err_from_is_err_and c.from_residual.result c.from_residual.ensures.1 in
    let w = bad_picture _ c.args.plan.now (sym c.count_fits.ensures ∙ c.if-not-count_fits.false) _ c.in_err-extent.ensures in
    record { answer = rw (p.1, p.2) w.0; memory = w.1 }

pub overflow_mul-length : goal.overflow_mul-length
overflow_mul-length c = omega (arith, plan_small _ (sym c.count_fits.ensures ∙ c.if-not-count_fits.false) _ c.in_ok-extent.ensures)

pub overflow_add-length : goal.overflow_add-length
overflow_add-length c = omega (arith, plan_small _ (sym c.count_fits.ensures ∙ c.if-not-count_fits.false) _ c.in_ok-extent.ensures)

pub overflow_add-length-2 : goal.overflow_add-length-2
overflow_add-length-2 c = omega (arith, plan_small _ (sym c.count_fits.ensures ∙ c.if-not-count_fits.false) _ c.in_ok-extent.ensures)

pub returns-then-plan-length : goal.returns-then-plan-length
returns-then-plan-length c =
    let w = no_room _ c.args.plan.now (sym c.count_fits.ensures ∙ c.if-not-count_fits.false) _ c.in_ok-extent.ensures c.if-plan-length.true in
    record { answer = rw c.from-then-plan-length.ensures w.0; memory = w.1 }

pub write-requires : goal.write-requires
write-requires c = settled _ (sym c.count_fits.ensures ∙ c.if-not-count_fits.false) _ c.in_ok-extent.ensures _ c.if-plan-length.false

pub returns : goal.returns
returns c =
    let w = done _ _ (sym c.count_fits.ensures ∙ c.if-not-count_fits.false) _ c.in_ok-extent.ensures c.if-plan-length.false _ c.write.ensures in
    record { answer = w.0; memory = w.1 }
