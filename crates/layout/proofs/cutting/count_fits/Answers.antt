-- `layout::cutting::count_fits` meets its contract: its tests are those of the rule. Assumes nothing.
use mathlib.Core.Path.{refl, sym, ◌∙◌}
use borrow.Author.Tests.{le-leb}
use Rattle.rules.specs.Layout.{count_fits}
use Rattle.layout.proofs.Ends.{too_long}
use Rattle.layout.proofs.cutting.count_fits.Goals as goal

pub returns-then-layout-gt-MOST_LAYOUT : goal.returns-then-layout-gt-MOST_LAYOUT
returns-then-layout-gt-MOST_LAYOUT c = too_long _ c.if-layout-gt-MOST_LAYOUT.true

pub returns-then-is_closed : goal.returns-then-is_closed
unfolding count_fits
returns-then-is_closed c = rw (c.count_of.ensures, sym c.is_closed.ensures ∙ c.if-is_closed.true, le-leb _ _ c.if-layout-gt-MOST_LAYOUT.false) refl

pub returns-else-is_closed : goal.returns-else-is_closed
unfolding count_fits
returns-else-is_closed c = rw (c.if-is_closed.false, sym c.is_closed.ensures ∙ c.if-is_closed.false) refl
