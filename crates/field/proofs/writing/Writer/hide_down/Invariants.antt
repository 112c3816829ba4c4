-- `hide_down`: the positions from k on are written, and the drifting character waits until it is met. Assumes
-- nothing.
use mathlib.Core.Path.{◌≡◌}
use Prim.Native.Nat.{ℕ, ◌≤◌}
use Rattle.rules.specs.Form.{form_in}
use Rattle.rules.specs.Edit.{fill}
use Rattle.field.specs.Results.{left_at}
use Rattle.field.specs.Steps.{Between}
use Rattle.field.proofs.Turns.{Hiding}
use Rattle.field.proofs.writing.Writer.hide_down.Given as goal

abbrev pub invariant-loop-k : goal.invariant-loop-k
invariant-loop-k l =
    (l.lead ≤ l.k) × (l.k ≤ l.to) × (l.fill ≡ fill l.self.form.kind)
    × ((t : ℕ) → Between (form_in l.self.form) l.lead l.to → l.left ≡ left_at l.self.form.roles.now t l.to
    → Hiding l.self.table.now (form_in l.self.form) l.self.negative t l.lead l.to l.initial.field l.k l.rest l.waits l.field)
