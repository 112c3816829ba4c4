-- `plan::all_good` meets its contract: what has been counted and the forms that are left make the whole, and
-- the forms that are left decide. Assumes nothing.
use native.Mathlib.Omega.{arith}
use Rattle.rules.specs.Layout.{record_length}
use Rattle.rules.specs.PlanBytes.{all_good}
use Rattle.shape.proofs.Found.{found_good}
use Rattle.plan.specs.Walk.{all_read}
use Rattle.plan.proofs.Reading.{few_read, within_read}
use Rattle.plan.proofs.all_good.Goals as goal

pub returns-then-not-is_good : goal.returns-then-not-is_good
unfolding all_read all_good
returns-then-not-is_good c = grind (arith, found_good)

pub overflow_add-fields : goal.overflow_add-fields
overflow_add-fields c = grind (arith, few_read c.args.headers.now c.args.positions.now)

pub overflow_add-length : goal.overflow_add-length
unfolding record_length
overflow_add-length c = grind (arith, within_read c.args.headers.now c.args.positions.now)

pub loop-form-preserved : goal.loop-form-preserved
unfolding record_length all_good
loop-form-preserved c = grind (arith, found_good)

pub overflow_mul-fields : goal.overflow_mul-fields
overflow_mul-fields c = grind (arith, few_read c.args.headers.now c.args.positions.now)

pub returns-then-fields-headers : goal.returns-then-fields-headers
unfolding all_read record_length all_good
returns-then-fields-headers c = grind arith

pub returns-else-fields-headers : goal.returns-else-fields-headers
unfolding all_read record_length all_good
returns-else-fields-headers c = grind arith
