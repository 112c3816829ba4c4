-- `layout::writing::put_forms` meets its contract, by the laws of `Putting`. Assumes nothing.
use Rattle.rules.specs.Layout.{pictures}
use Rattle.layout.proofs.Puts.{Putting}
use Rattle.layout.proofs.writing.put_forms.Given as goal

abbrev pub invariant-loop-text : goal.invariant-loop-text
invariant-loop-text l =
    (goal.iterator-loop-text).can_next l.text-iterator ×
    (goal.iterator-loop-text).is_finite l.text-iterator ×
    Putting (pictures l.layout) l.initial.plan l.headers l.positions l.plan l.header l.at (pictures l.text-iterator.left.now)
