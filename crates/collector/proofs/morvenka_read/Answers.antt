-- `morvenka_read` meets its contract: a value goes into the run, and a refusal leaves it. Assumes nothing.
use mathlib.Core.Path.{sym, ap, ◌∙◌}
use borrow.Author.Rules.{rules}
use lib.IntN.{ℤ}
use mir.Syntax.{w64}
use mir.Val.{SFits}
use mir.Facts.{to_z-of_z}
use Rattle.rules.specs.Collector.{packed}
use Rattle.wire.specs.Run.{put_at}
use Rattle.collector.proofs.Runs.{left_by, read_right}
use Rattle.collector.proofs.morvenka_read.Goals as goal
use Rattle.collector.proofs.morvenka_read.Goals.{in-Ok, in_default}

pub returns : goal.returns
returns c =
    elim c.match-outcome.branch [
      | in-Ok w ↦
          let f : SFits w64 w.in-Ok.value = search rules in
          read_right _ _ _ _ c.read.ensures _ (w.outcome-is ∙ sym w.in-Ok.is ∙ c.with_room-outcome.ensures) _ (c.pack.ensures ∙ ap packed c.of_value.ensures) _
          (w.row-is ∙ w.put.ensures.memory ∙ ap (λ (z : ℤ). put_at c.args.row.now 0 z) (to_z-of_z f) ∙ ap (λ r. left_by r c.args.row.now) (sym w.outcome-is))
      | in_default w ↦
          read_right _ _ _ _ c.read.ensures _ (w.outcome-is ∙ c.with_room-outcome.ensures) _ (c.pack.ensures ∙ ap packed c.of_value.ensures) _
          (w.row-is ∙ ap (λ r. left_by r c.args.row.now) (sym (w.outcome-is ∙ w.in_default.is)))
    ]
