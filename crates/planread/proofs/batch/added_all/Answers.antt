-- `planread::batch::added_all` meets its contract: whatever the rest of the batch gives from here is what the
-- whole gives. The place grows with every record, up to the batch's length. Assumes nothing.
use mathlib.Core.Path.{sym, ◌∙◌}
use borrow.Author.Rules.{rules}
use Rattle.planread.proofs.Additions.{goes_further, inside, nearer_end, stops_here}
use Rattle.planread.proofs.batch.added_all.Goals as goal

pub returns-then-not-goes_on : goal.returns-then-not-goes_on
returns-then-not-goes_on c =
    c.loop-outcome.invariant.rest _ (stops_here _ c.args.plan.accepted _ _ _ _ c.added_at-outcome.ensures (sym c.goes_on.ensures ∙ c.if-not-goes_on.true))

pub overflow_add-place : goal.overflow_add-place
overflow_add-place c =
    let within = inside _ c.args.plan.accepted _ _ _ _ c.added_at-outcome.ensures (sym c.goes_on.ensures ∙ c.if-not-goes_on.false) _ c.record_length-size.ensures in
    search rules

pub loop-outcome-smaller : goal.loop-outcome-smaller
loop-outcome-smaller c =
    nearer_end _ c.args.plan.accepted _ _ _ _ c.added_at-outcome.ensures (sym c.goes_on.ensures ∙ c.if-not-goes_on.false) _ c.record_length-size.ensures

pub loop-outcome-preserved : goal.loop-outcome-preserved
loop-outcome-preserved c =
    let g = sym c.goes_on.ensures ∙ c.if-not-goes_on.false in
    record {
      inside = inside _ c.args.plan.accepted _ _ _ _ c.added_at-outcome.ensures g _ c.record_length-size.ensures;
      rest = λ r w. c.loop-outcome.invariant.rest r (goes_further _ c.args.plan.accepted _ _ _ _ c.added_at-outcome.ensures g _ c.record_length-size.ensures r w);
    }
