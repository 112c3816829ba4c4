-- `mark_at`: two bytes are left, and they are the letters of a mark. Assumes nothing.
use native.Mathlib.Omega.{arith}
use borrow.Author.Rules.{rules}
use borrow.Author.Tests.{le-ltb}
use Rattle.std.proofs.lemmas.List.{take_rest}
use Rattle.rules.proofs.Marks.{not_two}
use Rattle.roles.proofs.Letters.{credit_letters, debit_letters, no_length, no_letters}
use Rattle.roles.proofs.marks.mark_at.Goals as goal

pub returns-in-CR : goal.returns-in-CR
returns-in-CR c = rw (← take_rest c.args.text.now c.args.i) (credit_letters _ (omega arith) (search rules) (search rules))

pub returns-in-CR-2 : goal.returns-in-CR-2
returns-in-CR-2 c = rw (← take_rest c.args.text.now c.args.i) (debit_letters _ (omega arith) (search rules) (search rules))

pub returns-in_default : goal.returns-in_default
returns-in_default c = rw (← take_rest c.args.text.now c.args.i) (no_length _ (λ e. omega arith))

pub returns-in_default-2 : goal.returns-in_default-2
returns-in_default-2 c = rw (← take_rest c.args.text.now c.args.i) (no_letters _ (λ a b. omega arith) (λ a b. omega arith))

pub returns-in_default-3 : goal.returns-in_default-3
returns-in_default-3 c = rw (← take_rest c.args.text.now c.args.i) (no_letters _ (λ a b. omega arith) (λ a b. omega arith))

pub returns-in_default-4 : goal.returns-in_default-4
returns-in_default-4 c = rw (← take_rest c.args.text.now c.args.i) (no_letters _ (λ a b. omega arith) (λ a b. omega arith))

pub returns-in_default-5 : goal.returns-in_default-5
returns-in_default-5 c = rw (← take_rest c.args.text.now c.args.i) (no_length _ (λ e. omega arith))

pub returns-else-i-text : goal.returns-else-i-text
returns-else-i-text c = rw (le-ltb c.args.i _ c.if-i-text.false) (not_two c.args.text.now c.args.i (λ e. omega arith))
