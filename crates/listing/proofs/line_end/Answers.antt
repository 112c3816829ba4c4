-- `listing::line_end` meets its contract: the first LF, where there is one. Assumes nothing.
use Prim.Native.Nat.{◌≤◌}
use lib.ListN.{length}
use borrow.Author.Rules.{rules}
use Rattle.std.proofs.lemmas.List.{take_rest}
use Rattle.listing.proofs.Splitting.{end_first, end_past}
use Rattle.listing.proofs.line_end.Goals as goal

pub returns-in-Some : goal.returns-in-Some
returns-in-Some c =
    let u = rw (c.first_end.ensures, end_first) at c.unwrap_or.ensures in
    let e = c.in-Some.ensures.lookup.0.2 in
    rw (u, e, take_rest c.args.input.now c.args.from)

pub returns-in-None : goal.returns-in-None
returns-in-None c =
    let h : length c.args.input.now ≤ c.args.from = search rules in
    end_past _ _ h
