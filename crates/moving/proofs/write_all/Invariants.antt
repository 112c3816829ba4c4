use Rattle.std.proofs.Common.{length}
use Rattle.moving.proofs.Moves.{Written}
use Rattle.moving.proofs.write_all.Given as goal

abbrev pub invariant-loop-rest : goal.invariant-loop-rest
invariant-loop-rest g l = Written (g.W.Write.contents l.fn.to) (g.W.Write.contents l.to) l.fn.text l.rest

abbrev pub decreases-loop-rest : goal.decreases-loop-rest
decreases-loop-rest g l = length l.rest
