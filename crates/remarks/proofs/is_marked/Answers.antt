use mathlib.Core.Path.{◌∙◌}
use Rattle.remarks.proofs.Ends.{mark_is}
use Rattle.remarks.proofs.is_marked.Goals as goal

pub returns : goal.returns
returns c = c.starts_with.ensures.value ∙ mark_is _
