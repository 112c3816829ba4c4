-- `lister::list` prints the layout's line and, where compiling has left a plan, has the lines behind it
-- listed by it. Assumes nothing.
use Rattle.listing.proofs.Printing.{layout_printed, not_accepted, layout_refused, layout_taken}
use Rattle.lister.proofs.list.Goals as goal

pub print_line-whole-requires : goal.print_line-whole-requires
print_line-whole-requires c =
    let p = c.requires in
    let e = c.layout_line-listed.ensures in
    layout_printed _ _ c.args.plan.now _ _ p.input p.rooms.0 c.layout_and_records.ensures.layout e.answer _ p.rooms.2 e.memory

pub layout_refused-requires : goal.layout_refused-requires
layout_refused-requires c =
    let p = c.requires in
    not_accepted _ _ _ _ _ p.input p.rooms.0 c.layout_and_records.ensures.layout c.layout_line-listed.ensures.answer c.in_default.is

pub returns-in_default : goal.returns-in_default
returns-in_default c =
    let p = c.requires in
    layout_refused _ _ _ _ _ p.input p.rooms.0 c.layout_and_records.ensures.layout c.layout_line-listed.ensures.answer c.in_default.is

pub list_records-course-requires-clause-plan : goal.list_records-course-requires-clause-plan
list_records-course-requires-clause-plan c =
    let p = c.requires in
    let e = c.layout_line-listed.ensures in
    layout_taken _ _ _ _ _ p.input p.rooms.0 c.layout_and_records.ensures.layout e.answer _ _ c.in-Some.is e.plan

pub sum_up-requires-clause-layout : goal.sum_up-requires-clause-layout
sum_up-requires-clause-layout c =
    let p = c.requires in
    let e = c.layout_line-listed.ensures in
    (layout_taken _ _ _ _ _ p.input p.rooms.0 c.layout_and_records.ensures.layout e.answer _ _ c.in-Some.is e.plan).layout
