-- `lead`: neither the opening nor the start has been passed, and what has been passed prints. Assumes nothing.
use mathlib.Core.Path.{◌≡◌}
use Prim.Native.Nat.{◌-◌, ◌≤◌, min}
use lib.ListN.{length}
use Rattle.rules.specs.Form.{form_in}
use Rattle.rules.specs.Edit.{opening}
use Rattle.fieldread.specs.Zones.{said_at, start_in}
use Rattle.fieldread.proofs.asked.Asked.lead.Given as goal

abbrev pub invariant-loop-at : goal.invariant-loop-at
invariant-loop-at l = (l.at ≤ l.end) × (l.end ≡ min l.self.form.vee (length l.self.form.roles.now)) × (l.said ≡ said_at (form_in l.self.form) l.self.field.now l.at) × (l.at ≤ start_in (form_in l.self.form) l.self.field.now) × (l.at ≤ opening (form_in l.self.form))

abbrev pub decreases-loop-at : goal.decreases-loop-at
decreases-loop-at l = l.end - l.at
