-- `listing::layout_line` meets its contract: the line says what compiling answers; on success the plan's
-- first byte is the field count, and what its length has besides the counts and headers is the record length.
-- Assumes nothing.
use mathlib.Core.Path.{refl}
use native.Mathlib.Omega.{arith}
use Rattle.listing.proofs.Layouts.{compiled, counts_text, plan_inside, listed_taken, listed_refused}
use Rattle.listing.proofs.layout_line.Goals as goal

pub bounds-plan-0 : goal.bounds-plan-0
bounds-plan-0 c =
    let e = rw c.in-Ok.is at c.compile.ensures.answer in
    let d = compiled _ _ _ _ e c.compile.ensures.memory refl in
    d.some

pub overflow_sub-symbols : goal.overflow_sub-symbols
overflow_sub-symbols c =
    let e = rw c.in-Ok.is at c.compile.ensures.answer in
    let d = compiled _ _ _ _ e c.compile.ensures.memory refl in
    omega arith

pub overflow_mul-symbols : goal.overflow_mul-symbols
overflow_mul-symbols c =
    let e = rw c.in-Ok.is at c.compile.ensures.answer in
    let d = compiled _ _ _ _ e c.compile.ensures.memory refl in
    record { fits = omega arith }

pub overflow_sub-symbols-in-Ok : goal.overflow_sub-symbols-in-Ok
overflow_sub-symbols-in-Ok c =
    let e = rw c.in-Ok.is at c.compile.ensures.answer in
    let d = compiled _ _ _ _ e c.compile.ensures.memory refl in
    omega arith

pub overflow_cast-symbols : goal.overflow_cast-symbols
overflow_cast-symbols c =
    let e = rw c.in-Ok.is at c.compile.ensures.answer in
    let d = compiled _ _ _ _ e c.compile.ensures.memory refl in
    record { sfits = omega arith }

pub returns-in-Ok : goal.returns-in-Ok
returns-in-Ok c =
    let e = rw c.in-Ok.is at c.compile.ensures.answer in
    let m = c.compile.ensures.memory in
    let d = compiled _ _ _ _ e m refl in
    let g = c.put_line-line.ensures in
    let w = listed_taken _ _ _ _ _ _ _ e (rw c.from-fields.ensures (counts_text _ _ _ d)) g.answer g.memory in
    record { answer = w.0; plan = m; memory = w.1; within = (plan_inside _ _ _ _ e m, g.within) }

pub returns-in-Err : goal.returns-in-Err
returns-in-Err c =
    let e = rw c.in-Err.is at c.compile.ensures.answer in
    let g = c.put_line-line-in-Err.ensures in
    let w = listed_refused _ _ _ _ _ c.in-Err.refused e g.answer g.memory in
    record { answer = w.0; plan = c.compile.ensures.memory; memory = w.1; within = (tt, g.within) }
