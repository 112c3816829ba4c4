-- `list_in`: the lists lie in ranges of the character set, but for their braces. Assumes nothing.
use borrow.Author.Rules.{rules}
use native.Mathlib.Omega.{arith}
use Rattle.rules.proofs.Decide.{decide}
use Rattle.roles.proofs.Worths.{is_list}
use Rattle.roles.proofs.figures.list_in.Goals as goal

pub returns-in-48-to-57 : goal.returns-in-48-to-57
returns-in-48-to-57 c = is_list c.args.c _ (omega (arith, c.ranges.c)) (search (decide, rules))

pub returns-in-123 : goal.returns-in-123
returns-in-123 c = is_list c.args.c _ (omega (arith, c.ranges.c)) (search (decide, rules))

pub returns-in-123-2 : goal.returns-in-123-2
returns-in-123-2 c = is_list c.args.c _ (omega (arith, c.ranges.c)) (search (decide, rules))

pub returns-in-125 : goal.returns-in-125
returns-in-125 c = is_list c.args.c _ (omega (arith, c.ranges.c)) (search (decide, rules))

pub returns-in-125-2 : goal.returns-in-125-2
returns-in-125-2 c = is_list c.args.c _ (omega (arith, c.ranges.c)) (search (decide, rules))

pub returns-in_default : goal.returns-in_default
returns-in_default c = is_list c.args.c _ (omega (arith, c.ranges.c)) (search (decide, rules))

pub returns-in_default-2 : goal.returns-in_default-2
returns-in_default-2 c = is_list c.args.c _ (omega (arith, c.ranges.c)) (search (decide, rules))

pub returns-in_default-3 : goal.returns-in_default-3
returns-in_default-3 c = is_list c.args.c _ (omega (arith, c.ranges.c)) (search (decide, rules))
