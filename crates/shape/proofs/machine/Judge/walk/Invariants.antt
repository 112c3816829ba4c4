-- What has been walked and what is still to come give what the whole gives; a phase is a byte, and each role
-- adds one weight at the most. Assumes nothing.
use Prim.Native.Nat.{◌+◌, ◌*◌, ◌≤◌, ◌<◌}
use mathlib.Core.Path.{◌≡◌}
use lib.ListN.{length, drop}
use Rattle.shape.specs.Machine.{walked_all}
use Rattle.shape.proofs.machine.Judge.walk.Given as goal

abbrev pub invariant-loop-role : goal.invariant-loop-role
invariant-loop-role l =
    (l.role-index ≤ length l.roles)
    × (l.phase < 256)
    × (l.sum ≤ l.initial.sum + 4294967296 * l.role-index)
    × (walked_all l.self.next l.self.weight (record { phase = l.phase; sum = l.sum }) (drop l.role-index l.roles)
    ≡ walked_all l.self.next l.self.weight (record { phase = l.initial.phase; sum = l.initial.sum }) l.roles)
