-- `totals::Sheet::with_row` meets its contract: after i turns each column has the first i values over it.
-- Assumes nothing.
use mathlib.Core.Path.{◌≡◌, refl}
use Prim.Native.Nat.{◌<◌}
use native.Mathlib.Omega.{arith}
use borrow.Author.Rules.{rules}
use mir.Syntax.{w64}
use mir.Val.{SFits}
use mir.Facts.{to_z-of_z}
use lib.IntN.{pos, ◌+ℤ◌}
use lib.ListN.{length, get_or}
use lib.Seq.{take_all}
use Rattle.totals.specs.Totals.{greater, lesser, over, with_row}
use Rattle.totals.proofs.Columns.{over_behind, over_turn}
use Rattle.totals.proofs.Signed.{sum_bits}
use Rattle.totals.proofs.Sheet.with_row.Goals as goal

pub loop-i-init : goal.loop-i-init
unfolding over
loop-i-init c = record { first = refl; count = refl; sums = refl; least = refl; greatest = refl }

pub overflow_add-self : goal.overflow_add-self
overflow_add-self c =
    let i = c.loop-i.i in
    let f : SFits w64 (get_or c.loop-i.self.sums i (pos 0)) = search rules in
    let g : SFits w64 (get_or c.args.row.now i (pos 0)) = search rules in
    rw (to_z-of_z f, to_z-of_z g, c.loop-i.invariant.sums, over_behind) (sum_bits _ (c.requires.sums i (omega arith)))

pub loop-i-preserved : goal.loop-i-preserved
loop-i-preserved c =
    let i = c.loop-i.i in
    let q = c.lesser in
    let r = c.greater in
    let m : SFits w64 (get_or c.args.row.now i (pos 0)) = search rules in
    let x : SFits w64 (get_or c.loop-i.self.sums i (pos 0)) = search rules in
    let y : SFits w64 (get_or c.loop-i.self.least i (pos 0)) = search rules in
    let z : SFits w64 (get_or c.loop-i.self.greatest i (pos 0)) = search rules in
    let px : SFits w64 (get_or c.loop-i.self.sums i (pos 0) +ℤ get_or c.args.row.now i (pos 0)) = rw (c.loop-i.invariant.sums, over_behind) (sum_bits _ (c.requires.sums i (omega arith))) in
    let qx : SFits w64 q.result = record { sfits = q.type_inv } in
    let rx : SFits w64 r.result = record { sfits = r.type_inv } in
    let ns : length c.args.self.sums ≡ 32 = search rules in
    let nl : length c.args.self.least ≡ 32 = search rules in
    let ng : length c.args.self.greatest ≡ 32 = search rules in
    let k : i < 32 = omega (arith, c.requires.few) in
    record {
      first = refl;
      count = c.loop-i.invariant.count;
      sums = rw (to_z-of_z x, to_z-of_z m, to_z-of_z px) (over_turn ◌+ℤ◌ _ _ _ i _ (omega arith) (omega arith) c.loop-i.invariant.sums refl);
      least = rw (to_z-of_z qx) (over_turn (lesser _) _ _ _ i _ (omega arith) (omega arith) c.loop-i.invariant.least (rw (to_z-of_z y, to_z-of_z m) at q.ensures));
      greatest = rw (to_z-of_z rx) (over_turn (greater _) _ _ _ i _ (omega arith) (omega arith) c.loop-i.invariant.greatest (rw (to_z-of_z z, to_z-of_z m) at r.ensures));
    }

pub returns : goal.returns
unfolding with_row
returns c =
    let e : c.loop-i.i ≡ length c.args.row.now = omega arith in
    rw (c.loop-i.invariant.count, c.loop-i.invariant.sums, c.loop-i.invariant.least, c.loop-i.invariant.greatest, e, take_all (length c.args.row.now) c.args.row.now (omega arith))
