-- `text::put` meets its contract. Assumes nothing.
use borrow.Author.Rules.{rules}
use mathlib.Core.Path.{◌≡◌}
use Prim.Native.Nat.{◌-◌}
use lib.ListN.{length, length-replicate, replicate}
use Rattle.text.specs.Expansion.{filled}
use Rattle.text.proofs.Walk.{fill_is}
use Rattle.text.proofs.put.Goals as goal

pub returns : goal.returns
unfolding filled
returns c =
    let l : length c.args.picture.now.symbols ≡ 64 = search rules in
    let e : (c.fill.new.self ≡ replicate (c.min-2.result - c.min.result) c.args.b) = search rules in
    rw (e, length-replicate, c.min.ensures, c.min-2.ensures, fill_is c.args.picture.now.symbols c.args.picture.now.count c.args.n c.args.b l)
