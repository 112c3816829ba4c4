-- `list_of`: each arm is the definition's, by the sign. Assumes nothing.
use native.Mathlib.Omega.{arith}
use borrow.Author.Tests.{ne_eqb}
use Rattle.rules.specs.Edit.{list_of}
use Rattle.roles.proofs.figures.list_of.Goals as goal

pub returns-then-negative : goal.returns-then-negative
unfolding list_of
returns-then-negative c = rw (c.in-15.is, c.if-negative.true)

pub returns-else-negative : goal.returns-else-negative
unfolding list_of
returns-else-negative c = rw (c.in-15.is, c.if-negative.false)

pub returns-then-negative-2 : goal.returns-then-negative-2
unfolding list_of
returns-then-negative-2 c = rw (c.in-16.is, c.if-negative-2.true)

pub returns-else-negative-2 : goal.returns-else-negative-2
unfolding list_of
returns-else-negative-2 c = rw (c.in-16.is, c.if-negative-2.false)

pub returns-then-negative-3 : goal.returns-then-negative-3
unfolding list_of
returns-then-negative-3 c = rw (c.in-17.is, c.if-negative-3.true)

pub returns-else-negative-3 : goal.returns-else-negative-3
unfolding list_of
returns-else-negative-3 c = rw (c.in-17.is, c.if-negative-3.false)

pub returns-in_default : goal.returns-in_default
unfolding list_of
returns-in_default c = rw (ne_eqb c.args.role 15 (omega arith), ne_eqb c.args.role 16 (omega arith), ne_eqb c.args.role 17 (omega arith))
