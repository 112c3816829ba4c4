-- `lister::list_read` prints the one line of an input over the limit, or has what was read listed. Assumes nothing.
use Rattle.listing.proofs.Printing.{over_printed}
use Rattle.lister.proofs.list_read.Goals as goal

pub print_line-whole-requires : goal.print_line-whole-requires
print_line-whole-requires c =
    let p = c.requires in
    let e = c.over_line-over.ensures in
    (over_printed _ _ _ p.input.1 c.is_over.ensures _ _ _ c.if-is_over.true p.rooms.2 e.answer e.memory).0

pub returns-then-is_over : goal.returns-then-is_over
returns-then-is_over c =
    let p = c.requires in
    let e = c.over_line-over.ensures in
    (over_printed _ _ _ p.input.1 c.is_over.ensures _ _ _ c.if-is_over.true p.rooms.2 e.answer e.memory).1
