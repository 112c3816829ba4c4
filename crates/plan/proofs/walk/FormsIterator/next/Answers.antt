-- `plan::walk::FormsIterator::next` meets its contract: a law of Reading for each way through it. Assumes
-- nothing.
use mathlib.Core.Path.{ap}
use borrow.Author.Rules.{rules}
use lib.ListN.{length}
use Rattle.plan.proofs.Reading.{read_none, read_parts, read_past}
use Rattle.plan.proofs.walk.FormsIterator.next.Goals as goal

pub returns-in_default-clause-steps : goal.returns-in_default-clause-steps
returns-in_default-clause-steps c = let e = read_none _ c.args.self.now.positions.now c.in_default.len_below in (e, e)

pub returns-in_err-roles-clause-steps : goal.returns-in_err-roles-clause-steps
returns-in_err-roles-clause-steps c =
    let e = read_past c.args.self.now.headers.now _ c.in_err-roles.ensures.cases in
    rw c.from_residual.ensures (e, e)

pub returns-clause-steps : goal.returns-clause-steps
returns-clause-steps c =
    let parts = c.in_ok-roles.ensures.cases in
    read_parts _ _ _ _ c.in-len3-up.len_at_least parts.0 parts.1 parts.2

pub returns-clause-goes : goal.returns-clause-goes
returns-clause-goes c =
    let parts = c.in_ok-roles.ensures.cases in
    let shorter = ap length (read_parts _ _ c.in_ok-roles.roles.now c.in_ok-roles.positions.now c.in-len3-up.len_at_least parts.0 parts.1 parts.2) in
    search rules
