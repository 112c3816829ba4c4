-- `totaller::add_next` adds the record that the line says, and prints its refusal: what the library answers
-- decides both. Assumes nothing.
use Rattle.listing.proofs.TotalPrinting.{added_next, refused_next, refused_printed}
use Rattle.totaller.proofs.add_next.Goals as goal

pub returns-in-None-clause-adds : goal.returns-in-None-clause-adds
returns-in-None-clause-adds c =
    let p = c.requires in
    added_next _ _ p.plan _ _ _ _ _ _ _ p.course p.line.0 p.line.1 c.added_line-entered.ensures.line c.in-None.is

pub print_line-whole-requires : goal.print_line-whole-requires
print_line-whole-requires c =
    let p = c.requires in
    refused_printed _ _ p.plan _ _ _ _ _ _ _ p.course p.line.0 p.line.1 c.added_line-entered.ensures.line _ c.in-Some.is p.room

pub returns-in-Some-clause-adds : goal.returns-in-Some-clause-adds
returns-in-Some-clause-adds c =
    let p = c.requires in
    refused_next _ _ p.plan _ _ _ _ _ _ _ p.course p.line.0 p.line.1 c.added_line-entered.ensures.line _ c.in-Some.is _ c.limit_of.ensures
