-- `mark_by` is the definition: the row is that of the sign. Assumes nothing.
use borrow.Author.Rules.{rules}
use borrow.Author.Tests.{lt-ltb}
use Rattle.rules.proofs.Decide.{decide}
use Rattle.roles.specs.Table.{mark_by}
use Rattle.roles.proofs.table.mark_by.Goals as goal
use Rattle.roles.proofs.table.mark_by.Goals.{else-negative, then-negative}

pub overflow_add-result : goal.overflow_add-result
overflow_add-result c = elim c.if-negative.branch [ then-negative w ↦ search rules | else-negative w ↦ search rules ]

pub bounds-table-row : goal.bounds-table-row
bounds-table-row c = elim c.if-negative.branch [ then-negative w ↦ search rules | else-negative w ↦ search rules ]

pub returns-then-column-lt15 : goal.returns-then-column-lt15
unfolding mark_by
returns-then-column-lt15 c =
    let l = lt-ltb _ 15 c.if-column-lt15.true in
    elim c.if-negative.branch [ then-negative w ↦ rw (← c.from-column.ensures, l, w.if-negative.true, w.row-is) | else-negative w ↦ rw (← c.from-column.ensures, l, w.if-negative.false, w.row-is) ]

pub returns : goal.returns
unfolding mark_by
returns c = search (decide, rules)
