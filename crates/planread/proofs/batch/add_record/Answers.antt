-- `planread::batch::add_record` meets its contract: bytes that are no plan are refused, and by a plan the
-- outcome is that of its forms. Assumes nothing.
use Rattle.planread.proofs.Additions.{added_is, none_alone}
use Rattle.planread.proofs.batch.add_record.Goals as goal

pub returns-in-Ok : goal.returns-in-Ok
returns-in-Ok c = rw c.in-Ok.ensures.plan at (added_is _ c.in-Ok.plan.accepted _ _ _ c.added.ensures)

pub returns-in-Err : goal.returns-in-Err
returns-in-Err c = rw (c.unchanged.ensures, c.into.ensures) (none_alone _ _ c.in-Err.ensures.number _ _)
