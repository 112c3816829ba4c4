-- `planedit::judge_row` meets its contract: each turn, the stop and the end are laws of Judging. Assumes
-- nothing.
use mathlib.Core.Path.{◌≡◌, refl}
use mathlib.Core.Logic.{inl, inr, ⊎_elim}
use Prim.Native.Nat.{◌+◌, ◌≤◌}
use borrow.Author.Rules.{rules}
use native.Mathlib.Omega.{arith}
use mir.Syntax.{w64}
use mir.Val.{SFits}
use mir.Facts.{to_z-of_z}
use lib.ListN.{length}
use Rattle.rules.specs.PlanBytes.{forms_in}
use Rattle.plan.specs.Walk.{forms_left}
use Rattle.planedit.proofs.Judging.{judged_bad, judged_end, judged_start, judged_step}
use Rattle.rules.proofs.Refusing.{refusal_some}
use Rattle.planedit.proofs.judge_row.Goals as goal

pub loop-i-init : goal.loop-i-init
loop-i-init c =
    let e = c.into_iter-i-iterator.ensures.into_iter_gives in
    let s = c.enumerate-i-items.ensures.source in
    let none : c.into_iter-i-iterator.result.count ≡ 0 = rw e c.enumerate-i-items.ensures.count in
    let all : forms_left c.into_iter-i-iterator.result.iter.a ≡ forms_in c.args.plan.bytes.now = rw (e, s, c.zip.ensures.first) c.forms.ensures in
    let values : c.into_iter-i-iterator.result.iter.b.rest.now ≡ c.args.row.now = rw (e, s) c.zip.ensures.second.0 in
    let first = judged_start c.args.plan.bytes.now c.args.row.now c.args.plan.accepted c.requires in
    let few : length (forms_left c.into_iter-i-iterator.result.iter.a) ≤ 32 = rw all (omega (arith, first.few)) in
    record { can = ((tt, tt), tt, inl (omega arith)); finite = tt; judged = rw (all, values, none) first }

pub returns-in-Err : goal.returns-in-Err
returns-in-Err c =
    let s = c.in-Some.ensures.steps in
    let f : SFits w64 c.in-Some.m.now = search rules in
    let here = rw (s.0.0, s.0.1) at c.loop-i.invariant.judged in
    rw s.1 (judged_bad _ _ _ _ _ _ here _ (rw (to_z-of_z f) at c.in-Err.ensures) (refusal_some c.in-Err.refusal))

pub loop-i-preserved : goal.loop-i-preserved
loop-i-preserved c =
    let s = c.in-Some.ensures.steps in
    let f : SFits w64 c.in-Some.m.now = search rules in
    let here = rw (s.0.0, s.0.1) at c.loop-i.invariant.judged in
    let next = judged_step _ _ _ _ _ _ here _ (rw (to_z-of_z f) at c.in_default.ensures) refl in
    let few : c.loop-i.i-iterator.count + 1 + length (forms_left c.next.new.self.iter.a) ≤ 32 = next.few in
    record { can = ((tt, tt), tt, inl (omega (arith, s.2))); finite = tt; judged = rw s.2 next }

pub returns : goal.returns
returns c =
    let j = c.loop-i.invariant.judged in
    ⊎_elim (λ a. judged_end _ _ _ _ j (inl a.1.0)) (λ b. judged_end _ _ _ _ j (inr b.1.0)) c.in-None.ensures.steps.0
