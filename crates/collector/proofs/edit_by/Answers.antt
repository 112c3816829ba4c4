-- `collector::edit_by` meets its contract. Assumes nothing.
use mathlib.Core.Path.{ap, ◌∙◌}
use Rattle.rules.specs.Collector.{packed}
use Rattle.collector.proofs.PlanCalls.{row_got, plan_edited, edit_small}
use Rattle.collector.proofs.edit_by.Goals as goal

pub pack-requires : goal.pack-requires
pack-requires c = rw c.of_fields.ensures (edit_small _ _ _ _ _ c.edit.ensures)

pub returns : goal.returns
returns c =
    plan_edited _ _ _ (c.get_row.ensures.memory ∙ row_got _ _ c.requires) _ _ _ c.edit.ensures _ (c.pack.ensures ∙ ap packed c.of_fields.ensures)
