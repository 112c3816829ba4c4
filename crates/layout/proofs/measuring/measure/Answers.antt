-- `layout::measuring::measure` meets its contract, by the laws of `Measuring`. Assumes nothing.
use native.Mathlib.Omega.{arith}
use Rattle.std.proofs.lemmas.Result.{err_from_is_err_and}
use Rattle.layout.proofs.Measures.{few_next, measuring_stops, size_small, measuring_more, measuring_done}
use Rattle.layout.proofs.measuring.measure.Goals as goal

pub returns-in_err-form : goal.returns-in_err-form
returns-in_err-form c =
    let p = err_from_is_err_and c.from_residual.result c.from_residual.ensures.1 in
    rw (p.1, p.2) (measuring_stops _ _ _ c.loop-text.invariant.2 _ _ c.in-Some.ensures.steps _ c.in_err-form.ensures.0 c.in_err-form.ensures.1)

pub overflow_add-extent-in-loop-text : goal.overflow_add-extent-in-loop-text
overflow_add-extent-in-loop-text c =
    let h = c.loop-text.invariant.2 in
    omega (arith, h.narrow, few_next _ _ _ h _ _ c.in-Some.ensures.steps c.requires, size_small _ _ _ h _ _ c.in-Some.ensures.steps c.in_ok-form.ensures.0 _ c.in_ok-form.ensures.1)

pub loop-text-preserved : goal.loop-text-preserved
loop-text-preserved c =
    (tt, tt, measuring_more _ _ _ c.loop-text.invariant.2 _ _ c.in-Some.ensures.steps c.in_ok-form.ensures.0 _ c.in_ok-form.ensures.1)

pub returns : goal.returns
returns c = measuring_done _ _ _ c.loop-text.invariant.2 c.in-None.ensures.steps.0
