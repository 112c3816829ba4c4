-- `does_open`: the two roles are those of the definition. Assumes nothing.
use borrow.Author.Rules.{rules}
use Rattle.rules.proofs.Decide.{decide}
use Rattle.rules.specs.Roles.{is_first_drifting, is_suppressible, opens}
use Rattle.roles.proofs.does_open.Goals as goal

pub returns-in-1 : goal.returns-in-1
unfolding opens is_suppressible is_first_drifting
returns-in-1 c = search (decide, rules)

pub returns-in_default : goal.returns-in_default
unfolding opens is_suppressible is_first_drifting
returns-in_default c = search (decide, rules)

pub returns-in_default-2 : goal.returns-in_default-2
unfolding opens is_suppressible is_first_drifting
returns-in_default-2 c = search (decide, rules)
