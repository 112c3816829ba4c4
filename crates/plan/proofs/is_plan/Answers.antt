-- `plan::is_plan` meets its contract: each way through it is a law of Whole. Assumes nothing.
use Prim.Native.Nat.{◌<◌}
use mathlib.Core.Logic.{◌⊎◌}
use native.Mathlib.Omega.{arith}
use lib.ListN.{length-take, length-drop}
use Rattle.rules.specs.Layout.{most_pictures}
use Rattle.rules.proofs.PlanWalk.{field_count}
use Rattle.plan.proofs.Whole.{by_forms, no_byte, no_headers, other_count, other_length}
use Rattle.plan.proofs.is_plan.Goals as goal

pub returns-in_default : goal.returns-in_default
returns-in_default c = no_byte _ c.in_default.len_below

pub returns-then-not-contains : goal.returns-then-not-contains
returns-then-not-contains c =
    let count : (field_count c.args.bytes.now < 1) ⊎ (most_pictures < field_count c.args.bytes.now) = grind arith in
    other_count _ count

pub returns-in_default-split_at_checked : goal.returns-in_default-split_at_checked
returns-in_default-split_at_checked c = no_headers _ (grind (arith, length-take, length-drop))

pub returns-in_default-rest : goal.returns-in_default-rest
returns-in_default-rest c = no_headers _ (grind (arith, length-take, length-drop))

pub returns-then-from_be_bytes-positions : goal.returns-then-from_be_bytes-positions
returns-then-from_be_bytes-positions c =
    let parts = c.in-Some.ensures.cases in
    other_length c.args.bytes.now _ _ parts.1 parts.2 c.in-len2-up.len_at_least _ c.from_be_bytes.ensures (λ i. omega (arith, c.type_inv.bytes i)) c.if-from_be_bytes-positions.true

pub returns : goal.returns
returns c =
    let parts = c.in-Some.ensures.cases in
    by_forms c.args.bytes.now _ _ parts.1 parts.2 c.in-len2-up.len_at_least _ c.from_be_bytes.ensures (λ i. omega (arith, c.type_inv.bytes i)) c.if-from_be_bytes-positions.false (grind arith) (grind arith) _
    c.all_good.ensures
