-- `collector::read_by` meets its contract: a refusal leaves the run, a success writes the values read.
-- Assumes nothing.
use mathlib.Core.Path.{◌≡◌, sym, ap, ◌∙◌}
use Rattle.std.proofs.Common.{arith}
use Rattle.std.proofs.lemmas.Grind.{common_steps}
use Rattle.rules.specs.Refusals.{fields_answer}
use Rattle.rules.specs.Collector.{packed}
use Rattle.collector.proofs.PlanCalls.{left_by, plan_fits, plan_run, read_small}
use Rattle.collector.proofs.read_by.Goals as goal
use Rattle.collector.proofs.read_by.Goals.{in-Ok, in_default}

pub slice_bounds-put_row-end : goal.slice_bounds-put_row-end
slice_bounds-put_row-end c =
    let fits = plan_fits _ _ _ _ c.requires _ c.in-Ok.count (rw c.in-Ok.is at c.read-outcome.ensures) in
    grind (arith, common_steps, fits)

pub slice_bounds-put_row-end-in-Ok : goal.slice_bounds-put_row-end-in-Ok
slice_bounds-put_row-end-in-Ok c =
    let fits = plan_fits _ _ _ _ c.requires _ c.in-Ok.count (rw c.in-Ok.is at c.read-outcome.ensures) in
    grind (arith, common_steps, fits)

pub pack-requires : goal.pack-requires
pack-requires c =
    let same : (c.match-outcome.outcome ≡ c.read-outcome.result) =
    elim c.match-outcome.branch [ in-Ok w ↦ w.outcome-is ∙ sym w.in-Ok.is | in_default w ↦ w.outcome-is ] in
    rw (c.of_fields.ensures, same) (read_small _ _ _ _ _ c.read-outcome.ensures)

pub returns : goal.returns
returns c =
    let same : (c.match-outcome.outcome ≡ c.read-outcome.result) =
    elim c.match-outcome.branch [ in-Ok w ↦ w.outcome-is ∙ sym w.in-Ok.is | in_default w ↦ w.outcome-is ] in
    let left : (c.match-outcome.row ≡ left_by c.read-outcome.result c.read-outcome.new.row c.args.row.now) =
    elim c.match-outcome.branch [
      | in-Ok w ↦ w.row-is ∙ w.put_row.ensures.memory ∙ ap (λ o. left_by o c.read-outcome.new.row c.args.row.now) (sym w.in-Ok.is)
      | in_default w ↦ w.row-is ∙ ap (λ o. left_by o c.read-outcome.new.row c.args.row.now) (sym w.in_default.is)
    ] in
    plan_run _ _ _ _ c.requires _ _ c.read-outcome.ensures _ (c.pack.ensures ∙ ap packed (c.of_fields.ensures ∙ ap fields_answer same)) _ left
