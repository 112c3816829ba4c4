-- `planread::read` meets its contract: bytes that are no plan are refused, and by a plan the outcome is that
-- of its forms. Assumes nothing.
use mathlib.Core.Path.{refl, ◌∙◌}
use Rattle.rules.proofs.Refusing.{passed_on, test_failed}
use Rattle.planread.proofs.Ways.{by_forms, no_plan_here}
use Rattle.planread.proofs.read.Goals as goal

pub returns-in_err-new : goal.returns-in_err-new
returns-in_err-new c =
    let f = test_failed _ _ _ c.in_err-new.ensures.number in
    no_plan_here _ _ _ _ _ f.0 (passed_on _ _ c.from_residual.ensures.1 ∙ rw f.1) refl

pub returns : goal.returns
returns c =
    let e = c.in_ok-new.ensures.plan in
    by_forms _ _ _ _ _ (rw e at c.in_ok-new.field-0.accepted) (rw e at c.read_record.ensures.answer) (rw e at c.read_record.ensures.memory)
