-- `is_bare`: the digits that are not punched are the first two roles. Assumes nothing.
use Rattle.roles.proofs.Ranges.{bare_is}
use Rattle.roles.proofs.is_bare.Goals as goal

pub returns : goal.returns
returns c = bare_is _
