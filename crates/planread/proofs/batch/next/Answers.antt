-- `planread::batch::next` meets its contract: bytes that are no plan are refused, and by a plan the place
-- decides. Assumes nothing.
use Rattle.planread.proofs.Additions.{next_is, next_none, size_fits}
use Rattle.planread.proofs.Refusing.{handed_on}
use Rattle.planread.proofs.batch.next.Goals as goal

pub returns-in_err-plan : goal.returns-in_err-plan
returns-in_err-plan c = rw (handed_on _ _ c.from_residual.ensures.1) (next_none _ _ c.in_err-plan.ensures.number _ _)

pub next_of-requires : goal.next_of-requires
next_of-requires c = rw c.record_length.ensures (size_fits _ c.in_ok-plan.plan.accepted)

pub returns : goal.returns
returns c = rw c.in_ok-plan.ensures.plan at (next_is _ c.in_ok-plan.plan.accepted _ _ _ _ c.record_length.ensures c.next_of.ensures)
