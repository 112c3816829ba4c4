-- `form::does_suppress` meets its contract: the symbols of the kind are counted. Assumes nothing.
use borrow.Author.Rules.{rules}
use mathlib.Core.Path.{◌≡◌}
use mathlib.Core.Bool.{cond}
use borrow.Author.Tests.{le-leb, lt-leb}
use lib.Dec.{leb}
use Rattle.form.proofs.Numbering.{enough_is}
use Rattle.form.proofs.does_suppress.Goals as goal
use Rattle.form.proofs.does_suppress.Goals.{then-kind-le2, else-kind-le2}

pub returns : goal.returns
returns c =
    let e : (c.if-kind-le2.enough ≡ cond (leb c.args.kind 2) 1 2) =
    elim c.if-kind-le2.branch [ then-kind-le2 w ↦ rw (le-leb c.args.kind 2 w.if-kind-le2.true) w.enough-is | else-kind-le2 w ↦ rw (lt-leb c.args.kind 2 w.if-kind-le2.false) w.enough-is ] in
    enough_is _ _ _ _ _ (search rules) (search rules) c.letter_of.ensures c.tally.ensures e
