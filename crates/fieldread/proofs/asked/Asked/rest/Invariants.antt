-- `rest`: printing has started, and each bare digit so far is one. Assumes nothing.
use mathlib.Core.Path.{◌≡◌}
use mathlib.Core.Bool.{true}
use Prim.Native.Nat.{◌+◌, ◌≤◌}
use lib.ListN.{length}
use Rattle.rules.specs.Form.{form_in}
use Rattle.fieldread.specs.Zones.{fine_at, said_at, so_far, start_in}
use Rattle.fieldread.proofs.asked.Asked.rest.Given as goal

abbrev pub invariant-loop-role : goal.invariant-loop-role
invariant-loop-role l = (start_in (form_in l.self.form) l.self.field.now ≤ l.from) × (l.said ≡ said_at (form_in l.self.form) l.self.field.now (l.from + length l.yielded)) × (so_far (fine_at (form_in l.self.form) l.self.field.now) (l.from + length l.yielded) ≡ true)
