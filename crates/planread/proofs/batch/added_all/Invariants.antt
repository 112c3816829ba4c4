-- `planread::batch::added_all` meets its contract: whatever the rest of the batch gives from here is what the
-- whole gives. The place grows with every record, up to the batch's length. Assumes nothing.
use Prim.Native.Nat.{◌-◌, ◌≤◌}
use lib.ListN.{length}
use Rattle.totals.specs.History.{Along, Batched}
use Rattle.planread.proofs.batch.added_all.Given as goal

abbrev pub invariant-loop-outcome : goal.invariant-loop-outcome
invariant-loop-outcome l = record {
  inside : l.place ≤ length l.batch;
  rest : (r : Batched) → Along l.plan.bytes.now l.batch l.place l.kept r → Along l.plan.bytes.now l.batch 0 l.initial.kept r;
}

abbrev pub decreases-loop-outcome : goal.decreases-loop-outcome
decreases-loop-outcome l = length l.batch - l.place
