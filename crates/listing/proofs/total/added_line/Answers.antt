-- `listing::total::added_line` meets its contract: what adding the record answers decides whether there is a
-- line, and is said there. Assumes nothing.
use Rattle.listing.proofs.TotalTexts.{entered_none, entered_some}
use Rattle.listing.proofs.total.added_line.Goals as goal

pub returns-in-Ok : goal.returns-in-Ok
returns-in-Ok c =
    let a = rw c.in-Ok.is at c.add_record-added.ensures in
    record { line = entered_none _ _ _ _ _ _ c.in-Ok.field-0 a; within = tt }

pub returns-in-Err : goal.returns-in-Err
returns-in-Err c =
    let a = rw c.in-Err.is at c.add_record-added.ensures in
    let w = c.put_line-line.ensures in
    record { line = entered_some _ _ _ _ _ _ c.in-Err.refused _ _ a w.answer w.memory; within = w.within }
