-- `step`: each way through it is a law of Turns. Assumes nothing.
use mathlib.Core.Path.{sym, ◌∙◌}
use Rattle.field.proofs.Turns.{step_bare, step_mark, step_punched}
use Rattle.field.proofs.writing.Writer.step.Goals as goal

pub returns-then-is_bare : goal.returns-then-is_bare
returns-then-is_bare c = step_bare _ _ _ _ (sym c.is_bare.ensures ∙ c.if-is_bare.true)

pub returns-then-is_punched : goal.returns-then-is_punched
returns-then-is_punched c =
    rw c.figure_by.ensures (step_punched _ _ _ _ (sym c.is_bare.ensures ∙ c.if-is_bare.false) (sym c.is_punched.ensures ∙ c.if-is_punched.true))

pub returns : goal.returns
returns c =
    rw c.mark_by.ensures (step_mark _ _ _ _ (sym c.is_bare.ensures ∙ c.if-is_bare.false) (sym c.is_punched.ensures ∙ c.if-is_punched.false))
