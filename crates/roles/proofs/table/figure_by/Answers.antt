-- `figure_by` is the definition: past the lists there is nothing. Assumes nothing.
use Prim.Native.Nat.{◌+◌, ◌*◌}
use native.Mathlib.Nat.{add_assoc}
use native.Mathlib.Omega.{arith}
use borrow.Author.Tests.{le-ltb, lt-ltb}
use Rattle.roles.specs.Table.{figure_by}
use Rattle.roles.proofs.table.figure_by.Goals as goal

pub returns-then-at-lt60 : goal.returns-then-at-lt60
unfolding figure_by
returns-then-at-lt60 c =
    rw (c.from.ensures, c.from-2.ensures, ← c.list_of.ensures, lt-ltb (10 * c.list_of.result + c.args.d) 30 (omega arith), add_assoc)

pub returns : goal.returns
unfolding figure_by
returns c =
    rw (← c.list_of.ensures, le-ltb (10 * c.list_of.result + c.args.d) 30 (omega arith))
