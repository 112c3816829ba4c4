-- `form::one_suppresses` meets its contract: the kinds below have been asked. Assumes nothing.
use mathlib.Core.Path.{◌≡◌, refl}
use native.Mathlib.Omega.{arith}
use Prim.Native.Nat.{◌+◌, ◌-◌}
use Rattle.rules.proofs.Spelling.{one_le}
use Rattle.rules.specs.Form.{numbers}
use Rattle.rules.specs.Good.{suppressing}
use Rattle.form.proofs.Numbering.{kinds_more, kinds_le, byte_one, one_kind}
use Rattle.form.proofs.one_suppresses.Goals as goal

pub loop-kind-init : goal.loop-kind-init
unfolding suppressing
loop-kind-init c = refl

pub overflow_add-kinds : goal.overflow_add-kinds
overflow_add-kinds c =
    let k = kinds_le (c.loop-kind.kind - 1) (numbers c.held-symbols.result.now) in
    let o = byte_one c.does_suppress.result in
    omega (arith, c.loop-kind.invariant, c.from-kinds.ensures, o, one_le c.does_suppress.result)

pub loop-kind-preserved : goal.loop-kind-preserved
loop-kind-preserved c =
    let ns = numbers c.held-symbols.result.now in
    let z : c.loop-kind.kind + 1 - 1 ≡ c.loop-kind.kind = omega arith in
    rw (z, kinds_more c.loop-kind.kind ns (omega arith), c.loop-kind.invariant, c.from-kinds.ensures, byte_one, c.does_suppress.ensures)

pub returns : goal.returns
returns c =
    let e : c.loop-kind.kind ≡ 7 = omega arith in
    rw (c.loop-kind.invariant, e, c.held-symbols.ensures.symbols) (one_kind _)
