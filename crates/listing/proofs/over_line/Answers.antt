-- `listing::over_line` meets its contract: its three numbers are those of an input over the limit. Assumes
-- nothing.
use Rattle.listing.proofs.Texts.{over_text}
use Rattle.listing.proofs.over_line.Goals as goal

pub returns : goal.returns
returns c =
    let w = rw (c.into.ensures, over_text) at c.put_line.ensures in
    record { answer = w.answer; memory = w.memory; within = w.within }
