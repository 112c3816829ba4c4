-- `totaller::saying::sum_up` says of the record at which the adding stopped what is so: its number is a limit's, or 0. Assumes nothing.
use Rattle.listing.proofs.TotalPrinting.{stop_limit}
use Rattle.totaller.proofs.saying.sum_up.Goals as goal

pub stopped-requires : goal.stopped-requires
stopped-requires c = stop_limit _ _ _ _ _ c.requires.adding
