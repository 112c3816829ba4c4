-- `plan::Plan::record_length` meets its contract: a plan is as long as its counts, its headers and its
-- positions. Assumes nothing.
use native.Mathlib.Omega.{arith}
use Rattle.rules.proofs.PlanWalk.{plan_parts}
use Rattle.plan.proofs.Plan.record_length.Goals as goal

pub overflow_mul-result : goal.overflow_mul-result
overflow_mul-result c = omega (arith, c.field_count.ensures, (plan_parts _ c.args.self.accepted).few)

pub overflow_add-result : goal.overflow_add-result
overflow_add-result c = omega (arith, c.field_count.ensures, (plan_parts _ c.args.self.accepted).few)

pub overflow_sub-result : goal.overflow_sub-result
overflow_sub-result c = omega (arith, c.field_count.ensures, (plan_parts _ c.args.self.accepted).size)

pub returns : goal.returns
returns c = omega (arith, c.field_count.ensures, (plan_parts _ c.args.self.accepted).size)
