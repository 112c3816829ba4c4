-- `layout::cutting::is_closed` meets its contract. Assumes nothing.
use mathlib.Core.Path.{◌∙◌}
use Rattle.layout.proofs.Ends.{closed_is}
use Rattle.layout.proofs.cutting.is_closed.Goals as goal

pub returns : goal.returns
returns c = c.ends_with.ensures.value ∙ closed_is _
