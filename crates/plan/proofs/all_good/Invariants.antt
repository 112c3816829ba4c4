-- `plan::all_good` meets its contract: what has been counted and the forms that are left make the whole, and
-- the forms that are left decide. Assumes nothing.
use Prim.Native.Nat.{◌+◌}
use mathlib.Core.Path.{◌≡◌}
use lib.ListN.{length}
use Rattle.rules.specs.Layout.{record_length}
use Rattle.rules.specs.PlanBytes.{all_good}
use Rattle.plan.specs.Walk.{forms_left, forms_read}
use Rattle.plan.proofs.all_good.Given as goal

abbrev pub invariant-loop-form : goal.invariant-loop-form
invariant-loop-form l =
    (goal.iterator-loop-form).can_next l.form-iterator
    × (goal.iterator-loop-form).is_finite l.form-iterator
    × (l.fields + length (forms_left l.form-iterator) ≡ length (forms_read l.headers l.positions))
    × (l.length + record_length (forms_left l.form-iterator) ≡ record_length (forms_read l.headers l.positions))
    × (all_good (forms_left l.form-iterator) ≡ all_good (forms_read l.headers l.positions))
