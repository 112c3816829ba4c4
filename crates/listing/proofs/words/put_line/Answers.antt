-- `listing::words::put_line` meets its contract: the parts of the line, each behind the one before, have room
-- in the lent memory. Assumes nothing.
use Prim.Native.Nat.{◌+◌, ◌*◌, ◌≤◌}
use native.Mathlib.Omega.{arith}
use lib.ListN.{length}
use Rattle.listing.specs.Lines.{text_of, values_in}
use Rattle.listing.proofs.Writing.{put_room}
use Rattle.listing.proofs.Values.{values_le}
use Rattle.listing.proofs.Texts.{head_le, line_out, line_refused, line_taken}
use Rattle.listing.proofs.words.put_line.Goals as goal

pub returns-then-out-lt-LINE : goal.returns-then-out-lt-LINE
returns-then-out-lt-LINE c =
    let w = line_out (text_of c.args.k (values_in c.args.answer)) c.args.out.now c.if-out-lt-LINE.true in
    record { answer = w.0; memory = w.1.0; within = w.1.1 }

pub put_values-end-requires : goal.put_values-end-requires
put_values-end-requires c =
    let few : length c.in-Ok.row.now ≤ 32 = rw c.in-Ok.is at c.requires in
    (few, put_room 62 (22 * length c.in-Ok.row.now) c.put_head-head.ensures (head_le _ _ _) (omega arith))

pub put_end-requires : goal.put_end-requires
put_end-requires c =
    let few : length c.in-Ok.row.now ≤ 32 = rw c.in-Ok.is at c.requires in
    let n = 22 * length c.in-Ok.row.now in
    let h = put_room 62 (n + 1) c.put_head-head.ensures (head_le _ _ _) (omega arith) in
    put_room n 1 c.put_values-end.ensures (values_le _) (omega arith)

pub put_end-requires-in-Err : goal.put_end-requires-in-Err
put_end-requires-in-Err c = put_room 62 1 c.put_head-head-in-Err.ensures (head_le _ _ _) (omega arith)

pub returns-in-Ok : goal.returns-in-Ok
returns-in-Ok c =
    let few : length c.in-Ok.row.now ≤ 32 = rw c.in-Ok.is at c.requires in
    let w = line_taken c.args.k (omega arith) c.in-Ok.row.now few c.put_head-head.ensures c.put_values-end.ensures c.put_end.ensures in
    rw c.in-Ok.is (record { answer = w.0; memory = w.1.0; within = w.1.1 })

pub returns-in-Err : goal.returns-in-Err
returns-in-Err c =
    let h = rw c.from.ensures at c.put_head-head-in-Err.ensures in
    let w = line_refused c.args.k (omega arith) c.in-Err.refused h c.put_end-in-Err.ensures in
    rw c.in-Err.is (record { answer = w.0; memory = w.1.0; within = w.1.1 })
