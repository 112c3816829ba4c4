-- `listing::number::put_number` meets its contract: std's text has room and is copied. Assumes nothing.
use mathlib.Core.Path.{◌≡◌}
use borrow.Author.Rules.{rules}
use Rattle.listing.proofs.Writing.{put_copied}
use Rattle.listing.proofs.number.put_number.Goals as goal

pub returns : goal.returns
returns g c =
    let e : c.as_bytes-text.result.now ≡ g.I.Integer.text c.args.n = search rules in
    let f = put_copied c.as_bytes-text.result.now c.args.out.now c.put.new.out c.args.at (search rules) c.put.ensures.memory in
    rw (← e) f
