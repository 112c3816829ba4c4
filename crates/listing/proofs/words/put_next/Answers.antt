-- `listing::words::put_next` meets its contract: the comma, and the number behind it. Assumes nothing.
use Rattle.listing.proofs.Writing.{put_cons}
use Rattle.listing.proofs.Commas.{next_is}
use Rattle.listing.proofs.words.put_next.Goals as goal

pub returns : goal.returns
returns g c = rw next_is (put_cons c.put_number.ensures)
