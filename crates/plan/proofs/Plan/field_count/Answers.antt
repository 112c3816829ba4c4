-- `plan::Plan::field_count` meets its contract: a plan has a byte. Assumes nothing.
use native.Mathlib.Omega.{arith}
use Rattle.rules.proofs.PlanWalk.{plan_parts}
use Rattle.plan.proofs.Plan.field_count.Goals as goal

pub bounds-self-0 : goal.bounds-self-0
bounds-self-0 c = omega (arith, (plan_parts _ c.args.self.accepted).size)
