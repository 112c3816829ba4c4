-- `layout::measuring::measure` meets its contract, by the laws of `Measuring`. Assumes nothing.
use Rattle.rules.specs.Layout.{pictures}
use Rattle.layout.proofs.Measures.{Measuring}
use Rattle.layout.proofs.measuring.measure.Given as goal

abbrev pub invariant-loop-text : goal.invariant-loop-text
invariant-loop-text l =
    (goal.iterator-loop-text).can_next l.text-iterator ×
    (goal.iterator-loop-text).is_finite l.text-iterator ×
    Measuring (pictures l.layout) l.extent (pictures l.text-iterator.left.now)
