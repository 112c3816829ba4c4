-- `listing::words::put_end` meets its contract: one store. Assumes nothing.
use Rattle.listing.proofs.Writing.{put_none, put_cons}
use Rattle.listing.proofs.words.put_end.Goals as goal

pub returns : goal.returns
returns c = put_cons (put_none _ _)
