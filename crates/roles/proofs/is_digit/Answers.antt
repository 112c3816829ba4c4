-- `is_digit`: what is bare, and what is punched. Assumes nothing.
use Rattle.roles.proofs.Ranges.{digit_is}
use Rattle.roles.proofs.is_digit.Goals as goal

pub returns : goal.returns
returns c = rw (c.is_bare.ensures, c.is_punched.ensures) (digit_is _)
