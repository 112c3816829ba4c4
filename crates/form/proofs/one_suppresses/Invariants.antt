-- `form::one_suppresses` meets its contract: the kinds below have been asked. Assumes nothing.
use mathlib.Core.Path.{◌≡◌}
use Prim.Native.Nat.{◌-◌}
use Rattle.rules.specs.Form.{numbers}
use Rattle.rules.specs.Good.{suppressing}
use Rattle.form.proofs.one_suppresses.Given as goal

abbrev pub invariant-loop-kind : goal.invariant-loop-kind
invariant-loop-kind l = l.kinds ≡ suppressing (l.kind - 1) (numbers l.symbols)
