-- `planedit::put_record` meets its contract: each turn and the end are laws of Writing. Assumes nothing.
use mathlib.Core.Path.{◌≡◌}
use mathlib.Core.Logic.{inl, inr, ⊎_elim}
use borrow.Author.Rules.{rules}
use mir.Syntax.{w64}
use mir.Val.{SFits}
use mir.Facts.{to_z-of_z}
use Rattle.rules.specs.PlanBytes.{forms_in}
use Rattle.plan.specs.Walk.{forms_left}
use Rattle.planedit.proofs.Writing.{written_end, written_start, written_step}
use Rattle.planedit.proofs.put_record.Goals as goal

pub loop-form-init : goal.loop-form-init
loop-form-init c =
    let e = c.into_iter-form-iterator.ensures.into_iter_gives in
    let all : forms_left c.into_iter-form-iterator.result.a ≡ forms_in c.args.plan.bytes.now = rw (e, c.zip-form-items.ensures.first) c.forms.ensures in
    let values : c.into_iter-form-iterator.result.b.rest.now ≡ c.args.row.now = rw e c.zip-form-items.ensures.second.0 in
    record { can = (tt, tt); finite = tt; written = rw (all, values) (written_start _ _ _ c.requires) }

pub loop-form-preserved : goal.loop-form-preserved
loop-form-preserved c =
    let s = c.in-Some.ensures.steps in
    let f : SFits w64 c.in-Some.m.now = search rules in
    let here = rw (s.0, s.1) at c.loop-form.invariant.written in
    record {
      can = (tt, tt);
      finite = tt;
      written = written_step _ _ _ _ _ _ _ here _ (rw (c.character_table-table.ensures, c.from.ensures, to_z-of_z f) at c.put.ensures.memory);
    }

pub returns : goal.returns
returns c =
    let w = c.loop-form.invariant.written in
    ⊎_elim (λ a. written_end _ _ _ _ _ w (inl a.1.0)) (λ b. written_end _ _ _ _ _ w (inr b.1.0)) c.in-None.ensures.steps
