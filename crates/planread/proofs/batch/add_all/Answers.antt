-- `planread::batch::add_all` meets its contract: bytes that are no plan are refused at place 0. Assumes
-- nothing.
use Rattle.planread.proofs.Additions.{none_along}
use Rattle.planread.proofs.batch.add_all.Goals as goal

pub returns-in-Err : goal.returns-in-Err
returns-in-Err c = rw c.into.ensures (none_along _ _ c.in-Err.ensures.number _ _ _)
