-- `put_marks`: the characters before position k are written. Assumes nothing.
use mathlib.Core.Path.{◌≡◌}
use lib.ListN.{get_or}
use lib.Seq.{sets}
use Rattle.rules.specs.Search.{up_to}
use Rattle.roles.specs.Table.{mark_by}
use Rattle.field.proofs.writing.Writer.put_marks.Given as goal

abbrev pub invariant-loop-k : goal.invariant-loop-k
invariant-loop-k l = l.field ≡ sets l.initial.field 0 (up_to l.k (λ j. mark_by l.self.table.now (get_or l.self.form.roles.now j 0) l.self.negative))
