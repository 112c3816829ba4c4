use Rattle.std.proofs.Common.{rules}
use Rattle.moving.proofs.Moves.{written_on, written_all}
use Rattle.moving.proofs.write_all.Goals as goal

pub loop-rest-preserved : goal.loop-rest-preserved
loop-rest-preserved g c = written_on _ _ _ _ _ _ c.loop-rest.invariant c.in_ok-done.ensures.bytes

pub returns : goal.returns
returns g c = written_all _ _ _ _ c.loop-rest.invariant (search rules)
