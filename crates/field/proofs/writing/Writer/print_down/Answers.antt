-- `print_down`: the positions from k on are written, and what is left of the magnitude has the digits before
-- them. Assumes nothing.
use mathlib.Core.Path.{◌≡◌, refl, sym, ◌∙◌}
use Prim.Native.Nat.{◌-◌, ◌<◌, ◌≤◌}
use native.Mathlib.Omega.{arith}
use lib.ListN.{get_or, length}
use Rattle.field.specs.Results.{left_at}
use Rattle.field.specs.Steps.{step_of}
use Rattle.field.proofs.Bytes.{sets_back}
use Rattle.field.proofs.Left.{left_all}
use Rattle.field.proofs.Turns.{left_turn, print_turn}
use Rattle.field.proofs.writing.Writer.print_down.Goals as goal

pub loop-k-init : goal.loop-k-init
loop-k-init c = (omega arith, sym (rw c.requires.1 (left_all c.args.self.form.roles.now c.args.magnitude)), λ shows q. refl)

pub loop-k-preserved : goal.loop-k-preserved
loop-k-preserved c =
    let a = c.args in
    let w = a.self in
    let rs = w.form.roles.now in
    let k = c.loop-k.k in
    let e : c.step-step.result ≡ step_of w.table.now (get_or rs (k - 1) 0) w.negative (left_at rs a.magnitude k) = c.step-step.ensures ∙ rw c.loop-k.invariant.1 in
    let h : 0 < k = omega arith in
    let l : k ≤ length rs = omega arith in (
      omega arith,
      left_turn _ _ _ a.magnitude k h l _ e,
      λ shows q. sets_back shows c.loop-k.field k _ h (print_turn _ _ _ a.magnitude k h l _ e ∙ sym (q (k - 1) (omega arith))) (c.loop-k.invariant.2 shows q),
    )
