-- `form::kind_of` meets its contract: the kinds above have been asked. Assumes nothing.
use mathlib.Core.Path.{◌≡◌}
use Rattle.rules.specs.Form.{numbers, kind_up_to, kind_of}
use Rattle.form.proofs.kind_of.Given as goal

abbrev pub invariant-loop-kind : goal.invariant-loop-kind
invariant-loop-kind l = kind_of (numbers l.symbols) ≡ kind_up_to l.kind (numbers l.symbols)
