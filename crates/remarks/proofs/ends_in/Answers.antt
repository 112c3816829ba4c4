use mathlib.Core.Path.{◌∙◌}
use Rattle.remarks.proofs.Ends.{ends_is}
use Rattle.remarks.proofs.ends_in.Goals as goal

pub returns : goal.returns
returns c = c.ends_with.ensures.value ∙ ends_is _ _
