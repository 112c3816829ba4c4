-- `listing::total::count_line` meets its contract: a number with no values behind it. Assumes nothing.
use Rattle.listing.specs.TotalLines.{count_text}
use Rattle.listing.proofs.total.count_line.Goals as goal

pub returns : goal.returns
unfolding count_text
returns c =
    let w = c.put_row.ensures in
    record { answer = w.answer; memory = w.memory; within = w.within }
