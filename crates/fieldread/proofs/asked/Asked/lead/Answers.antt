-- `lead`: neither the opening nor the start has been passed, and what has been passed prints. Assumes nothing.
use borrow.Author.Rules.{rules}
use mathlib.Core.Path.{◌≡◌}
use mathlib.Core.Bool.{false, ◌||◌}
use Prim.Native.Nat.{◌<◌}
use native.Mathlib.Omega.{arith}
use lib.ListN.{length}
use Rattle.rules.specs.Roles.{is_nine, opens}
use Rattle.rules.specs.Form.{form_in, role_at}
use Rattle.fieldread.proofs.Passing.{lead_early, lead_here, lead_on, lead_out, lead_stop, no_digit, said_first, said_mark, start_least}
use Rattle.fieldread.proofs.asked.Asked.lead.Goals as goal

pub loop-at-init : goal.loop-at-init
loop-at-init c = (omega arith, search rules, said_first _ _, omega arith, omega arith)

pub returns-then-is_nine-does_open : goal.returns-then-is_nine-does_open
returns-then-is_nine-does_open c =
    (c.loop-at.invariant.2, lead_here _ _ _ c.loop-at.invariant.3 c.loop-at.invariant.4 (rw (← c.is_nine.ensures, ← c.does_open.ensures) c.if-is_nine-does_open.true))

pub loop-at-preserved : goal.loop-at-preserved
loop-at-preserved c =
    let φ = form_in c.args.self.now.form in
    let f = c.args.self.now.field.now in
    let k = c.loop-at.at in
    let v : k < φ.vee = omega arith in
    let h : k < length φ.roles = omega arith in
    let e : (is_nine (role_at φ k) || opens (role_at φ k)) ≡ false = rw (← c.is_nine.ensures, ← c.does_open.ensures) c.if-is_nine-does_open.false in
    let g = c.loop-at.invariant.3 in
    let l = c.loop-at.invariant.4 in
    (omega arith, c.loop-at.invariant.1, said_mark φ f _ _ _ h (lead_out φ f _ g l v h e) c.loop-at.invariant.2 (no_digit _ e) c.print_mark-said.ensures, lead_on φ f _ g l v h e, lead_early φ f _ g l v h e)

pub returns : goal.returns
returns c =
    let φ = form_in c.args.self.now.form in
    let f = c.args.self.now.field.now in
    let k : c.loop-at.at ≡ c.before_vee-end.result = omega arith in
    (rw (← k) c.loop-at.invariant.2, rw (← k) (lead_stop _ _ _ c.loop-at.invariant.3 c.loop-at.invariant.4 (omega (arith, start_least φ f))))
