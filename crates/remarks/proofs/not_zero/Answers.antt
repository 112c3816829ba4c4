-- `remarks::not_zero` meets its contract. Assumes nothing.
use borrow.Author.Rules.{rules}
use Rattle.remarks.proofs.Ends.{first_is, no_first}
use Rattle.remarks.proofs.not_zero.Goals as goal

pub returns-in-empty : goal.returns-in-empty
returns-in-empty c = no_first _ (search rules)

pub returns-in-len1-up : goal.returns-in-len1-up
returns-in-len1-up c = first_is _ (search rules)
