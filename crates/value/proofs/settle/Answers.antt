-- `value::settle` meets its contract: what its last two tests decide is what Ways says of the sign. Assumes
-- nothing.
use mathlib.Core.Path.{◌≡◌}
use mathlib.Core.Bool.{false, not, ◌&&◌}
use lib.Dec.{eqb}
use Rattle.std.proofs.Common.{arith}
use Rattle.std.proofs.lemmas.Grind.{common_steps}
use Rattle.value.proofs.Ways.{no_sign, settles}
use Rattle.value.proofs.settle.Goals as goal
use Rattle.value.proofs.settle.Goals.{then-signed, else-signed, else-negative-via-then-negative+else-not-measured, else-negative-via-else-negative}

pub returns-then-not-measured : goal.returns-then-not-measured
returns-then-not-measured c =
    let minus : (c.if-signed.negative ≡ (c.in-Some.signed.negative && not (eqb c.in-Some-align.magnitude 0))) =
    elim c.if-signed.branch [ then-signed w ↦ grind (arith, common_steps) | else-signed w ↦ grind (arith, common_steps) ] in
    grind (arith, no_sign, minus)

pub returns : goal.returns
returns c =
    let minus : (c.if-signed.negative ≡ (c.in-Some.signed.negative && not (eqb c.in-Some-align.magnitude 0))) =
    elim c.if-signed.branch [ then-signed w ↦ grind (arith, common_steps) | else-signed w ↦ grind (arith, common_steps) ] in
    let shown : ((c.if-signed.negative && not c.measure-measured.result.signed) ≡ false) =
    elim c.else-negative.branch [
      | else-negative-via-then-negative+else-not-measured w ↦ grind (arith, common_steps)
      | else-negative-via-else-negative w ↦ grind (arith, common_steps)
    ] in
    grind (arith, settles, minus, shown)
