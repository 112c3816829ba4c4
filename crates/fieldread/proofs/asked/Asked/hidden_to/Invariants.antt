-- `hidden_to`: as long as positions show what hidden ones do printing hasn't started. Assumes nothing.
use mathlib.Core.Path.{◌≡◌}
use Prim.Native.Nat.{◌-◌, ◌≤◌, min}
use lib.ListN.{length}
use Rattle.rules.specs.Form.{form_in}
use Rattle.fieldread.specs.Zones.{HiddenTo}
use Rattle.fieldread.proofs.asked.Asked.hidden_to.Given as goal

abbrev pub invariant-loop-k : goal.invariant-loop-k
invariant-loop-k l = (l.k ≤ l.end) × (l.end ≡ min l.self.form.vee (length l.self.form.roles.now)) × HiddenTo (form_in l.self.form) l.self.field.now l.k

abbrev pub decreases-loop-k : goal.decreases-loop-k
decreases-loop-k l = l.end - l.k
