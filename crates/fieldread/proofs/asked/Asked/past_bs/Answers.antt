-- `past_bs`: a B is no digit, so that printing hasn't started at one. Assumes nothing.
use borrow.Author.Rules.{rules}
use mathlib.Core.Path.{◌≡◌, sym, ◌∙◌}
use mathlib.Core.Bool.{true≢false}
use Prim.Native.Nat.{◌<◌}
use native.Mathlib.Omega.{arith}
use lib.ListN.{length}
use Rattle.rules.specs.Form.{form_in}
use Rattle.fieldread.specs.Zones.{NoB}
use Rattle.fieldread.proofs.Passing.{start_least, bs_first, bs_on}
use Rattle.fieldread.proofs.asked.Asked.past_bs.Goals as goal
use Rattle.fieldread.proofs.asked.Asked.past_bs.Goals.{then-not-is_b-via-then-not-is_b, then-not-is_b-via-else-not-is_b+then-self-k}

pub overflow_step-k : goal.overflow_step-k
overflow_step-k c =
    omega (arith, c.requires, start_least (form_in c.args.self.now.form) c.args.self.now.field.now)

pub loop-k-init : goal.loop-k-init
loop-k-init c =
    let φ = form_in c.args.self.now.form in
    let f = c.args.self.now.field.now in
    (omega (arith, c.before_vee-end.ensures, c.requires, start_least φ f), search rules, bs_first _ _ _ c.requires)

pub returns-then-not-is_b : goal.returns-then-not-is_b
returns-then-not-is_b c =
    let φ = form_in c.args.self.now.form in
    let f = c.args.self.now.field.now in
    let u : NoB φ f c.loop-k.k =
    elim c.then-not-is_b.branch [ then-not-is_b-via-then-not-is_b w ↦ (λ l b e. true≢false (sym b ∙ sym c.is_b.ensures ∙ w.if-not-is_b.true)) | then-not-is_b-via-else-not-is_b+then-self-k w ↦ (λ l b e. w.if-self-k.true (e ∙ sym w.suppressed_of.ensures)) ] in
    (c.loop-k.invariant.2, u)

pub loop-k-preserved : goal.loop-k-preserved
loop-k-preserved c =
    let φ = form_in c.args.self.now.form in
    let f = c.args.self.now.field.now in
    let v : c.loop-k.k < φ.vee = omega arith in
    let h : c.loop-k.k < length φ.roles = omega arith in
    let b = sym c.is_b.ensures ∙ c.if-not-is_b.false in
    (omega arith, c.loop-k.invariant.1, bs_on φ f _ _ c.loop-k.invariant.2 v h b (c.if-self-k.false ∙ c.suppressed_of.ensures))

pub returns : goal.returns
returns c =
    let φ = form_in c.args.self.now.form in
    let f = c.args.self.now.field.now in
    let s = start_least φ f in
    let e : c.loop-k.k ≡ c.before_vee-end.result = omega arith in
    (rw (← e) c.loop-k.invariant.2, λ l b q. omega arith)
