use Prim.Native.Nat.{◌≤◌}
use lib.ListN.{length}
use borrow.Author.Rules.{rules}
use Rattle.moving.proofs.Moves.{read_on}
use Rattle.moving.proofs.read_all.Goals as goal

pub loop-count-preserved : goal.loop-count-preserved
loop-count-preserved g c =
    let v = c.loop-count.invariant in
    let e = c.in-Ok.ensures in
    let h : c.in-Ok.more ≤ length c.read.new.buf = e.bound.0 in
    record {
      inside = search rules;
      size = search rules;
      bytes = read_on _ _ _ _ _ _ _ _ v.inside h v.bytes e.bytes.0;
    }
