-- `listing::words::put_head` meets its contract: three numbers, each behind the one before. Assumes nothing.
use Prim.Native.Nat.{◌<◌, ◌^◌}
use native.Mathlib.Omega.{arith}
use borrow.Author.Rules.{rules}
use Rattle.rules.specs.Lister.{decimal}
use Rattle.listing.specs.Put.{head_of}
use Rattle.listing.proofs.Numerals.{decimal_le, decimal_same}
use Rattle.listing.proofs.Writing.{put_join, put_room}
use Rattle.listing.proofs.Commas.{behind_cons, next_le}
use Rattle.listing.proofs.words.put_head.Goals as goal

pub put_next-second-requires : goal.put_next-second-requires
put_next-second-requires c =
    let h : c.args.k < 2 ^ 64 = search rules in
    let f = rw (decimal_same c.args.k h) at c.put_number-first.ensures in
    let room = put_room 20 21 f (decimal_le _) (omega arith) in
    omega arith

pub put_next-requires : goal.put_next-requires
put_next-requires c =
    let h : c.args.k < 2 ^ 64 = search rules in
    let n : c.args.number < 2 ^ 64 = omega (arith, c.ranges.number.fits) in
    let f = rw (decimal_same c.args.k h) at c.put_number-first.ensures in
    let s = rw (decimal_same c.args.number n) at c.put_next-second.ensures in
    let h = put_room 20 42 f (decimal_le _) (omega arith) in
    let room = put_room 21 21 s (next_le _) (omega arith) in
    omega arith

pub returns : goal.returns
unfolding head_of
returns c =
    let h : c.args.k < 2 ^ 64 = search rules in
    let n : c.args.number < 2 ^ 64 = omega (arith, c.ranges.number.fits) in
    let m : c.args.field < 2 ^ 64 = omega (arith, c.ranges.field.fits) in
    let f = rw (decimal_same c.args.k h) at c.put_number-first.ensures in
    let s = rw (decimal_same c.args.number n) at c.put_next-second.ensures in
    let t = rw (decimal_same c.args.field m) at c.put_next.ensures in
    rw (behind_cons (decimal _)) (put_join f (put_join s t))
