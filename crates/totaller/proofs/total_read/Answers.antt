-- `totaller::total_read` prints the one line of an input over the limit, or has what was read totalled. Assumes nothing.
use Rattle.listing.proofs.Printing.{beyond, over_printed}
use Rattle.listing.proofs.TotalPrinting.{over_of}
use Rattle.totaller.proofs.total_read.Goals as goal

pub print_line-whole-requires : goal.print_line-whole-requires
print_line-whole-requires c =
    let p = c.requires in
    let e = c.over_line-over.ensures in
    let t = c.if-is_over.true in
    over_of _ _ (beyond _ _ _ p.input.1 c.is_over.ensures t) (over_printed _ _ _ p.input.1 c.is_over.ensures _ _ _ t p.rooms.1 e.answer e.memory).0
