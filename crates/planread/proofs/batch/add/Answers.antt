-- `planread::batch::add` meets its contract: bytes that are no plan are refused, and by a plan the outcome is
-- that of its forms. Assumes nothing.
use Rattle.planread.proofs.Additions.{none_placed, placed_is}
use Rattle.planread.proofs.batch.add.Goals as goal

pub returns-in-Ok : goal.returns-in-Ok
returns-in-Ok c = rw c.in-Ok.ensures.plan at (placed_is _ c.in-Ok.plan.accepted _ _ _ _ c.added_at.ensures)

pub returns-in-Err : goal.returns-in-Err
returns-in-Err c = rw (c.unchanged.ensures, c.into.ensures) (none_placed _ _ c.in-Err.ensures.number _ _ _)
