-- `totaller::total` prints the layout's line and, where compiling has left a plan, has the lines behind it
-- added and totalled by it. Assumes nothing.
use Rattle.listing.proofs.Printing.{layout_printed, not_accepted, layout_taken}
use Rattle.listing.proofs.TotalPrinting.{layout_of}
use Rattle.totaller.proofs.total.Goals as goal

pub print_line-whole-requires : goal.print_line-whole-requires
print_line-whole-requires c =
    let p = c.requires in
    let e = c.layout_line-listed.ensures in
    let t = layout_printed _ _ c.args.plan.now _ _ p.input p.rooms.0 c.layout_and_records.ensures.layout e.answer _ p.rooms.1 e.memory in
    layout_of _ _ p.input t

pub layout_refused-requires : goal.layout_refused-requires
layout_refused-requires c =
    let p = c.requires in
    not_accepted _ _ _ _ _ p.input p.rooms.0 c.layout_and_records.ensures.layout c.layout_line-listed.ensures.answer c.in_default.is

pub add_records-course-requires-clause-plan : goal.add_records-course-requires-clause-plan
add_records-course-requires-clause-plan c =
    let p = c.requires in
    let e = c.layout_line-listed.ensures in
    layout_taken _ _ _ _ _ p.input p.rooms.0 c.layout_and_records.ensures.layout e.answer _ _ c.in-Some.is e.plan

pub print_totals-all-requires-clause-plan : goal.print_totals-all-requires-clause-plan
print_totals-all-requires-clause-plan c =
    let p = c.requires in
    let e = c.layout_line-listed.ensures in
    layout_taken _ _ _ _ _ p.input p.rooms.0 c.layout_and_records.ensures.layout e.answer _ _ c.in-Some.is e.plan
