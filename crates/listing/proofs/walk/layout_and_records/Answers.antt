-- `listing::walk::layout_and_records` meets its contract: the walk's first line is the layout's, and it ends
-- at the first end. Assumes nothing.
use mathlib.Core.Path.{refl}
use Rattle.listing.proofs.Splitting.{layout_ends, layout_first}
use Rattle.listing.proofs.walk.layout_and_records.Goals as goal

pub returns : goal.returns
returns c =
    let w = layout_first c.args.input.now c.next.result _ _ _ c.unwrap_or-layout.ensures refl c.next.ensures.steps in
    record { layout = w.0; end = layout_ends _ _ w.0; records = w.1 }
