-- `hidden_to`: as long as positions show what hidden ones do printing hasn't started. Assumes nothing.
use borrow.Author.Rules.{rules}
use mathlib.Core.Path.{◌≡◌, sym, ◌∙◌}
use Prim.Native.Nat.{◌<◌}
use native.Mathlib.Omega.{arith}
use lib.ListN.{length}
use Rattle.rules.specs.Form.{form_in}
use Rattle.fieldread.specs.Zones.{Unhidden}
use Rattle.fieldread.proofs.Passing.{hidden_first, hidden_on, start_least, start_nine}
use Rattle.fieldread.proofs.asked.Asked.hidden_to.Goals as goal
use Rattle.fieldread.proofs.asked.Asked.hidden_to.Goals.{then-is_nine-via-then-is_nine, then-is_nine-via-else-is_nine+then-self-k}

pub loop-k-init : goal.loop-k-init
loop-k-init c =
    let φ = form_in c.args.self.now.form in
    let f = c.args.self.now.field.now in
    (omega (arith, c.before_vee-end.ensures, c.requires.short, start_least φ f), search rules, hidden_first _ _ _ c.requires)

pub returns-then-is_nine : goal.returns-then-is_nine
returns-then-is_nine c =
    let φ = form_in c.args.self.now.form in
    let f = c.args.self.now.field.now in
    let g = c.loop-k.invariant.2 in
    let u : Unhidden φ f c.loop-k.k =
    elim c.then-is_nine.branch [ then-is_nine-via-then-is_nine w ↦ (λ l q. let z = start_nine _ _ _ g.short (sym c.is_nine.ensures ∙ w.if-is_nine.true) in omega arith) | then-is_nine-via-else-is_nine+then-self-k w ↦ (λ l q. w.if-self-k.true (q ∙ sym w.suppressed_of.ensures)) ] in
    (g, u)

pub loop-k-preserved : goal.loop-k-preserved
loop-k-preserved c =
    let φ = form_in c.args.self.now.form in
    let f = c.args.self.now.field.now in
    let v : c.loop-k.k < φ.vee = omega arith in
    let h : c.loop-k.k < length φ.roles = omega arith in
    (omega arith, c.loop-k.invariant.1, hidden_on φ f _ c.loop-k.invariant.2 v h (sym c.is_nine.ensures ∙ c.if-is_nine.false) (c.if-self-k.false ∙ c.suppressed_of.ensures))

pub returns : goal.returns
returns c =
    let φ = form_in c.args.self.now.form in
    let f = c.args.self.now.field.now in
    let s = start_least φ f in
    let e : c.loop-k.k ≡ c.before_vee-end.result = omega arith in
    (rw (← e) c.loop-k.invariant.2, λ l b. omega arith)
