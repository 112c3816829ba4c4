-- `planread::run::run_fields` meets its contract: each turn, the stop and the end are laws of Turns. Assumes
-- nothing.
use mathlib.Core.Path.{◌≡◌}
use mathlib.Core.Logic.{inl}
use Prim.Native.Nat.{◌+◌, ◌≤◌}
use borrow.Author.Rules.{rules}
use native.Mathlib.Omega.{arith}
use mir.Syntax.{w64}
use mir.Val.{SFits}
use mir.Facts.{to_z-of_z}
use lib.ListN.{length}
use Rattle.rules.specs.PlanBytes.{forms_in}
use Rattle.plan.specs.Walk.{forms_left}
use Rattle.planread.proofs.Turns.{ends, goes_on, part_fits, starts, stops}
use Rattle.planread.proofs.run.run_fields.Goals as goal

pub loop-i-init : goal.loop-i-init
loop-i-init c =
    let e = c.into_iter-i-iterator.ensures.into_iter_gives in
    let none : c.into_iter-i-iterator.result.count ≡ 0 = rw e c.enumerate-i-items.ensures.count in
    let all : forms_left c.into_iter-i-iterator.result.iter ≡ forms_in c.args.plan.bytes.now = rw (e, c.enumerate-i-items.ensures.source) c.forms.ensures in
    let first = starts c.args.plan.bytes.now c.args.«record».now c.args.values.now c.args.plan.accepted c.requires in
    let few : length (forms_left c.into_iter-i-iterator.result.iter) ≤ 32 = rw all (omega (arith, first.few)) in
    record { can = (tt, tt, inl (omega arith)); finite = tt; onward = rw (all, none) first }

pub loop-i-init-derived : goal.loop-i-init-derived
loop-i-init-derived c = let i = loop-i-init c in (i.can, i.finite)

pub split_at-requires : goal.split_at-requires
split_at-requires c =
    let here = rw c.in-Some.ensures.steps.0 at c.loop-i.invariant.onward in
    part_fits _ _ _ _ _ _ here

pub returns-in_default : goal.returns-in_default
returns-in_default c =
    let here = rw c.in-Some.ensures.steps.0 at c.loop-i.invariant.onward in
    rw c.in-Some.ensures.steps.1 (stops _ _ _ _ _ _ here c.read.result (rw c.split_at.ensures.front at c.read.ensures) c.in_default.is)

pub loop-i-preserved : goal.loop-i-preserved
loop-i-preserved c =
    let here = rw c.in-Some.ensures.steps.0 at c.loop-i.invariant.onward in
    let next = goes_on _ _ _ _ _ _ here c.read.result (rw c.split_at.ensures.front at c.read.ensures) c.in-Some-read.m c.in-Some-read.is in
    let few : (c.loop-i.i-iterator.count + 1 + length (forms_left c.next.new.self.iter) ≤ 32) = next.few in
    let f : SFits w64 c.in-Some-read.m = search rules in
    let s = c.in-Some.ensures.steps in
    record {
      can = (tt, tt, inl (omega (arith, s.2)));
      finite = tt;
      onward = rw (s.2, s.1, c.split_at.ensures.back, to_z-of_z f) next;
    }

pub returns : goal.returns
returns c =
    ends _ _ _ _ (rw c.in-None.ensures.steps.0.0 at c.loop-i.invariant.onward)
