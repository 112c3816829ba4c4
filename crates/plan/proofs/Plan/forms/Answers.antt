-- `plan::Plan::forms` meets its contract: what stands between the count and the positions' count are the
-- headers. Assumes nothing.
use borrow.Author.Rules.{rules}
use native.Mathlib.Omega.{arith}
use Rattle.rules.proofs.PlanWalk.{plan_parts}
use Rattle.plan.proofs.Reading.{read_slices}
use Rattle.plan.proofs.Plan.forms.Goals as goal

pub overflow_mul-result : goal.overflow_mul-result
overflow_mul-result c = omega (arith, c.field_count-count.ensures, (plan_parts _ c.args.self.accepted).few)

pub overflow_add-result : goal.overflow_add-result
overflow_add-result c = omega (arith, c.field_count-count.ensures, (plan_parts _ c.args.self.accepted).few)

pub slice_bounds-result-end : goal.slice_bounds-result-end
slice_bounds-result-end c =
    let size = (plan_parts _ c.args.self.accepted).size in
    search rules

pub slice_bounds-result-count-2 : goal.slice_bounds-result-count-2
slice_bounds-result-count-2 c = omega (arith, c.field_count-count.ensures, (plan_parts _ c.args.self.accepted).size)

pub slice_bounds-result-start-2 : goal.slice_bounds-result-start-2
slice_bounds-result-start-2 c =
    let size = (plan_parts _ c.args.self.accepted).size in
    search rules

pub returns : goal.returns
returns c = read_slices _ _ c.field_count-count.ensures c.args.self.accepted
