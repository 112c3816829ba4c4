-- `print_mark` is the definition. Assumes nothing.
use Rattle.fieldread.specs.Zones.{mark_step}
use Rattle.fieldread.proofs.zones.Said.print_mark.Goals as goal

pub returns : goal.returns
unfolding mark_step
returns c = rw (c.mark_of.ensures, c.mark_of-2.ensures)
