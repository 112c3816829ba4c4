-- `print_down`: the positions from k on are written, and what is left of the magnitude has the digits before
-- them. Assumes nothing.
use mathlib.Core.Path.{◌≡◌}
use Prim.Native.Nat.{ℕ, ◌≤◌}
use lib.ListN.{length}
use lib.Seq.{sets}
use Rattle.rules.specs.Search.{up_to}
use Rattle.field.specs.Results.{left_at, printed_at}
use Rattle.field.proofs.writing.Writer.print_down.Given as goal

abbrev pub invariant-loop-k : goal.invariant-loop-k
invariant-loop-k l =
    (l.to ≤ l.k) × (l.left ≡ left_at l.self.form.roles.now l.magnitude l.k)
    × ((shows : ℕ → ℕ) → ((j : ℕ) → l.to ≤ j → shows j ≡ printed_at l.self.table.now l.self.form.roles.now l.self.negative l.magnitude j)
    → sets l.field 0 (up_to l.k shows) ≡ sets l.initial.field 0 (up_to (length l.initial.field) shows))
