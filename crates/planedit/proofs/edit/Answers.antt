-- `planedit::edit` meets its contract: bytes that are no plan are refused, and by a plan the row is edited.
-- Assumes nothing.
use mathlib.Core.Path.{refl, ◌∙◌}
use Rattle.rules.proofs.Refusing.{passed_on, test_failed}
use Rattle.planedit.proofs.Ways.{no_plan_edit, plan_edit}
use Rattle.planedit.proofs.edit.Goals as goal

pub returns-in_err-new : goal.returns-in_err-new
returns-in_err-new c =
    let f = test_failed _ _ _ c.in_err-new.ensures.number in
    no_plan_edit _ _ _ _ _ f.0 (passed_on _ _ c.from_residual.ensures.1 ∙ rw f.1) refl

pub returns : goal.returns
returns c = rw c.in_ok-new.ensures.plan at (plan_edit _ _ _ _ _ c.in_ok-new.field-0.accepted c.edit_row.ensures)
