-- `hide`: what hidden positions show, and where a symbol drifts one character more with Bs behind it, up to where printing starts; else no value has the
-- field. Assumes nothing.
use borrow.Author.Tests.{leb-false, leb-true}
use mathlib.Core.Path.{sym, ◌∙◌}
use Prim.Native.Nat.{◌<◌}
use native.Mathlib.Omega.{arith}
use Rattle.rules.specs.Form.{form_in}
use Rattle.fieldread.specs.Zones.{start_in}
use Rattle.fieldread.proofs.Passing.{hides_drift, start_least, stopped_all, unread_b, unread_kind}
use Rattle.fieldread.proofs.asked.Asked.hide.Goals as goal
use Rattle.fieldread.proofs.asked.Asked.hide.Goals.{then-not-does_drift-via-then-not-does_drift, then-not-does_drift-via-else-not-does_drift+then-is_b}

pub returns-then-does_start : goal.returns-then-does_start
returns-then-does_start c =
    stopped_all _ _ _ c.hidden_to-at.ensures.0 _ c.requires (leb-true _ _ (sym c.does_start.ensures ∙ c.if-does_start.true))

pub bounds-self-at : goal.bounds-self-at
bounds-self-at c =
    let φ = form_in c.args.self.now.form in
    let f = c.args.self.now.field.now in
    let later : (c.hidden_to-at.result < start_in φ f) = leb-false _ _ (sym c.does_start.ensures ∙ c.if-does_start.false) in
    omega (arith, later, start_least φ f)

pub returns-then-not-does_drift : goal.returns-then-not-does_drift
returns-then-not-does_drift c =
    let φ = form_in c.args.self.now.form in
    let f = c.args.self.now.field.now in
    let later : (c.hidden_to-at.result < start_in φ f) = leb-false _ _ (sym c.does_start.ensures ∙ c.if-does_start.false) in
    let g = c.hidden_to-at.ensures.0 in
    let n = c.hidden_to-at.ensures.1 later in
    elim c.then-not-does_drift.branch [ then-not-does_drift-via-then-not-does_drift w ↦ unread_kind _ _ c.args.self.now.long _ g later n (sym c.does_drift.ensures ∙ w.if-not-does_drift.true) | then-not-does_drift-via-else-not-does_drift+then-is_b w ↦ unread_b _ _ c.args.self.now.long _ g later n (sym w.is_b.ensures ∙ w.if-is_b.true) ]

pub past_bs-to-requires : goal.past_bs-to-requires
past_bs-to-requires c =
    leb-false _ _ (sym c.does_start.ensures ∙ c.if-does_start.false)

pub does_start-requires-2 : goal.does_start-requires-2
does_start-requires-2 c = c.past_bs-to.ensures.0.short

pub bounds-self-at-2 : goal.bounds-self-at-2
bounds-self-at-2 c =
    let φ = form_in c.args.self.now.form in
    let f = c.args.self.now.field.now in
    let later : (c.hidden_to-at.result < start_in φ f) = leb-false _ _ (sym c.does_start.ensures ∙ c.if-does_start.false) in
    omega (arith, later, start_least φ f, c.args.self.now.long)

pub returns : goal.returns
returns c =
    let φ = form_in c.args.self.now.form in
    let f = c.args.self.now.field.now in
    let later : (c.hidden_to-at.result < start_in φ f) = leb-false _ _ (sym c.does_start.ensures ∙ c.if-does_start.false) in
    let g = c.hidden_to-at.ensures.0 in
    let n = c.hidden_to-at.ensures.1 later in
    let t = c.past_bs-to.ensures in
    rw c.then_some.ensures (hides_drift φ f c.args.self.now.long _ g later n _ _ (sym c.does_drift.ensures ∙ c.if-not-does_drift.false) (sym c.is_b.ensures ∙ c.if-is_b.false) t.0 t.1 _ c.does_start-2.ensures)
