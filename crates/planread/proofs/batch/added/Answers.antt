-- `planread::batch::added` meets its contract: each way through it is a law of Additions. Assumes nothing.
use mathlib.Core.Path.{refl, ◌∙◌}
use native.Mathlib.Omega.{arith}
use borrow.Author.Rules.{rules}
use lib.ListN.{length-take}
use Rattle.planread.proofs.Additions.{added_way, few, full_way, refused_way}
use Rattle.rules.proofs.Refusing.{refusal_some}
use Rattle.planread.proofs.batch.added.Goals as goal

pub returns-then-sheet-ge-MOST_RECORDS : goal.returns-then-sheet-ge-MOST_RECORDS
returns-then-sheet-ge-MOST_RECORDS c = rw (c.unchanged.ensures, c.into.ensures) (full_way _ _ _ c.if-sheet-ge-MOST_RECORDS.true)

pub slice_bounds-row-end : goal.slice_bounds-row-end
slice_bounds-row-end c =
    let most = few _ _ c.args.sheet c.args.plan.accepted c.if-sheet-ge-MOST_RECORDS.false _ (search rules) _ c.in-Ok.ensures.answer refl in
    omega (arith, c.read_record.auto.row)

pub slice_bounds-add-end : goal.slice_bounds-add-end
slice_bounds-add-end c =
    let most = few _ _ c.args.sheet c.args.plan.accepted c.if-sheet-ge-MOST_RECORDS.false _ (search rules) _ c.in-Ok.ensures.answer refl in
    simp length-take (omega (arith, c.read_record.auto.row))

pub returns-in-Ok : goal.returns-in-Ok
returns-in-Ok c =
    c.add.ensures ∙ added_way _ _ _ c.args.plan.accepted c.if-sheet-ge-MOST_RECORDS.false _ (search rules) _ c.in-Ok.ensures.answer refl _ c.in-Ok.ensures.memory

pub returns-in-Err : goal.returns-in-Err
returns-in-Err c =
    rw c.unchanged-in-Err.ensures (refused_way _ _ _ c.args.plan.accepted c.if-sheet-ge-MOST_RECORDS.false _ (search rules) _ c.in-Err.ensures.answer (refusal_some c.in-Err.refused.refusal))
