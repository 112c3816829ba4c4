-- `digit_in`: the lists lie in ranges of the character set. Assumes nothing.
use borrow.Author.Rules.{rules}
use native.Mathlib.Omega.{arith}
use Rattle.rules.proofs.Decide.{decide}
use Rattle.roles.proofs.Worths.{is_worth}
use Rattle.roles.proofs.figures.digit_in.Goals as goal

pub returns-in-48-to-57 : goal.returns-in-48-to-57
returns-in-48-to-57 c = is_worth c.args.c _ (omega (arith, c.ranges.c)) (search (decide, rules))

pub returns-in-65-to-73 : goal.returns-in-65-to-73
returns-in-65-to-73 c = is_worth c.args.c _ (omega (arith, c.ranges.c)) (search (decide, rules))

pub returns-in-74-to-82 : goal.returns-in-74-to-82
returns-in-74-to-82 c = is_worth c.args.c _ (omega (arith, c.ranges.c)) (search (decide, rules))

pub returns-in_default : goal.returns-in_default
returns-in_default c = is_worth c.args.c _ (omega (arith, c.ranges.c)) (search (decide, rules))

pub returns-in_default-2 : goal.returns-in_default-2
returns-in_default-2 c = is_worth c.args.c _ (omega (arith, c.ranges.c)) (search (decide, rules))

pub returns-in_default-3 : goal.returns-in_default-3
returns-in_default-3 c = is_worth c.args.c _ (omega (arith, c.ranges.c)) (search (decide, rules))
