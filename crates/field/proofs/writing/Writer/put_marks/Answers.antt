-- `put_marks`: the characters before position k are written. Assumes nothing.
use mathlib.Core.Path.{refl}
use lib.ListN.{get_or}
use Rattle.rules.specs.Search.{up_to}
use Rattle.roles.specs.Table.{mark_by}
use Rattle.field.proofs.Bytes.{sets_next}
use Rattle.field.proofs.writing.Writer.put_marks.Goals as goal

pub loop-k-init : goal.loop-k-init
unfolding up_to
loop-k-init c = refl

pub loop-k-preserved : goal.loop-k-preserved
loop-k-preserved c = let w = c.args.self in sets_next (λ j. mark_by w.table.now (get_or w.form.roles.now j 0) w.negative) _ c.loop-k.k _ _ c.loop-k.invariant c.mark_by.ensures
