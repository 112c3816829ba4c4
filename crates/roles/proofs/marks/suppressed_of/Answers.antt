-- `suppressed_of`: where the fill is a blank, B and every other role show one. Assumes nothing.
use borrow.Author.Tests.{eq-eqb, ne_eqb}
use Rattle.rules.specs.Roles.{is_b}
use Rattle.rules.specs.Edit.{fill, suppressed}
use Rattle.rules.proofs.Logic.{by_test}
use Rattle.roles.proofs.marks.suppressed_of.Goals as goal

pub returns-then-kind-eq2 : goal.returns-then-kind-eq2
unfolding suppressed fill
returns-then-kind-eq2 c = rw (c.chosen.ensures, c.is_b.ensures, eq-eqb _ 2 c.if-kind-eq2.true)

pub returns : goal.returns
unfolding suppressed fill
returns c = rw (ne_eqb _ 2 c.if-kind-eq2.false) (by_test (is_b c.args.role) (λ b. rw b) (λ b. rw b))
