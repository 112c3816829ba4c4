-- `print_digit` is the definition. Assumes nothing.
use Rattle.fieldread.specs.Zones.{digit_step}
use Rattle.fieldread.proofs.zones.Said.print_digit.Goals as goal

pub returns : goal.returns
unfolding digit_step
returns c = rw (c.from.ensures, c.digit_in.ensures.0)
