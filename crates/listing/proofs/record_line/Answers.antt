-- `listing::record_line` meets its contract: the line says what reading the record answers. Assumes nothing.
use mathlib.Core.Path.{◌≡◌, refl, sym}
use Prim.Native.Nat.{◌≤◌}
use native.Mathlib.Omega.{arith}
use lib.ListN.{length, length-take}
use lib.Seq.{length-take-le}
use borrow.Author.Rules.{rules}
use Rattle.listing.proofs.Records.{text_taken, text_refused, record_few}
use Rattle.listing.proofs.record_line.Goals as goal

pub slice_bounds-row-end : goal.slice_bounds-row-end
slice_bounds-row-end c =
    let n : c.in-Ok.count ≤ 32 = record_few _ _ _ _ _ (rw c.in-Ok.is at c.read.ensures) in
    let l : length c.read.new.row ≡ 32 = search rules in
    omega arith

pub slice_bounds-put_line-end : goal.slice_bounds-put_line-end
slice_bounds-put_line-end c =
    let n : c.in-Ok.count ≤ 32 = record_few _ _ _ _ _ (rw c.in-Ok.is at c.read.ensures) in
    let l : length c.read.new.row ≡ 32 = search rules in
    sym (length-take-le _ _ (omega arith))

pub put_line-requires : goal.put_line-requires
put_line-requires c =
    let n : c.in-Ok.count ≤ 32 = record_few _ _ _ _ _ (rw c.in-Ok.is at c.read.ensures) in
    omega (arith, length-take c.in-Ok.count c.read.new.row)

pub returns-in-Ok : goal.returns-in-Ok
returns-in-Ok c =
    let r = rw c.in-Ok.is at c.read.ensures in
    let w = c.put_line.ensures in
    record { line = record { text = _; says = text_taken _ _ _ _ _ _ refl r; answers = w.answer; leaves = w.memory }; within = w.within }

pub returns-in-Err : goal.returns-in-Err
returns-in-Err c =
    let r = rw c.in-Err.is at c.read.ensures in
    let w = c.put_line-in-Err.ensures in
    record { line = record { text = _; says = text_refused _ _ _ _ _ _ refl r; answers = w.answer; leaves = w.memory }; within = w.within }
