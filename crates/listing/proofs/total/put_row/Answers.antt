-- `listing::total::put_row` meets its contract: the parts of the line, each behind the one before, have room
-- in the lent memory. Assumes nothing.
use Prim.Native.Nat.{◌+◌, ◌*◌, ◌^◌, ◌<◌}
use native.Mathlib.Omega.{arith}
use lib.ListN.{length}
use borrow.Author.Rules.{rules}
use Rattle.listing.specs.TotalLines.{row_text}
use Rattle.listing.proofs.Numerals.{decimal_le, decimal_same}
use Rattle.listing.proofs.Writing.{put_room}
use Rattle.listing.proofs.Values.{values_le}
use Rattle.listing.proofs.Texts.{line_out}
use Rattle.listing.proofs.TotalTexts.{row_in}
use Rattle.listing.proofs.total.put_row.Goals as goal

pub returns-then-out-lt-LINE : goal.returns-then-out-lt-LINE
returns-then-out-lt-LINE c =
    let w = line_out (row_text c.args.n c.args.row.now) c.args.out.now c.if-out-lt-LINE.true in
    record { answer = w.0; memory = w.1.0; within = w.1.1 }

pub put_values-end-requires : goal.put_values-end-requires
put_values-end-requires c =
    let h : c.args.n < 2 ^ 64 = search rules in
    let f = rw (decimal_same c.args.n h) at c.put_number-head.ensures in
    (c.requires, put_room 20 (22 * length c.args.row.now) f (decimal_le _) (omega arith))

pub put_end-requires : goal.put_end-requires
put_end-requires c =
    let h : c.args.n < 2 ^ 64 = search rules in
    let f = rw (decimal_same c.args.n h) at c.put_number-head.ensures in
    let k = 22 * length c.args.row.now in
    let w = put_room 20 (k + 1) f (decimal_le _) (omega arith) in
    put_room k 1 c.put_values-end.ensures (values_le _) (omega arith)

pub returns : goal.returns
returns c =
    let h : c.args.n < 2 ^ 64 = search rules in
    let f = rw (decimal_same c.args.n h) at c.put_number-head.ensures in
    let w = row_in c.args.n c.args.row.now (omega arith) c.requires f c.put_values-end.ensures c.put_end.ensures in
    record { answer = w.0; memory = w.1.0; within = w.1.1 }
