-- `hide_down`: the positions from k on are written, and the drifting character waits until it is met. Assumes
-- nothing.
use mathlib.Core.Path.{◌∙◌}
use native.Mathlib.Omega.{arith}
use Rattle.rules.specs.Roles.{is_b}
use Rattle.rules.specs.Form.{form_in}
use Rattle.rules.specs.Edit.{suppressed}
use Rattle.field.proofs.Turns.{hide_start, hide_turn}
use Rattle.field.proofs.writing.Writer.hide_down.Goals as goal

pub loop-k-init : goal.loop-k-init
unfolding suppressed is_b
loop-k-init c = (
  omega arith,
  omega arith,
  c.suppressed_of-fill.ensures,
  λ t b l. let w = c.args.self in
      hide_start w.table.now (form_in w.form) w.negative t c.args.lead c.args.to c.args.field.now b _ _ l
      (rw (c.chosen-waits.ensures, c.does_drift.ensures, c.mark_by.ensures, c.suppressed_of-fill.ensures)),
)

pub loop-k-preserved : goal.loop-k-preserved
loop-k-preserved c =
    let w = c.args.self in
    let k = c.loop-k.k in (
      omega arith,
      omega arith,
      c.loop-k.invariant.2,
      λ t b l. hide_turn w.table.now (form_in w.form) w.negative t c.args.lead c.args.to c.args.field.now b
          k c.loop-k.rest c.loop-k.waits c.loop-k.field (omega arith) c.loop-k.invariant.1 (c.loop-k.invariant.3 t b l) _ c.step-step.ensures _ _
          (c.chosen-in-loop-k.ensures ∙ rw (c.chosen.ensures, c.is_b-b.ensures))
          (c.chosen-waits-in-loop-k.ensures ∙ rw (c.is_b-b.ensures, c.loop-k.invariant.2)),
    )
