-- `put_shown`: what stands behind, what can be hidden and what stands before make the whole. Assumes nothing.
use mathlib.Core.Path.{◌≡◌, sym, ◌∙◌}
use Prim.Native.Nat.{◌+◌, min}
use lib.ListN.{length}
use Rattle.rules.specs.Search.{up_to}
use Rattle.rules.proofs.Search.{length_up_to}
use Rattle.field.specs.Results.{nine_in}
use Rattle.field.specs.Steps.{lead_to}
use Rattle.field.proofs.Bytes.{sets_all}
use Rattle.field.proofs.Hiding.{lead_between, lead_part, reach_part}
use Rattle.field.proofs.Turns.{all_parts, behind}
use Rattle.field.proofs.writing.Writer.put_shown.Goals as goal

pub returns : goal.returns
returns c =
    let w = c.args.self in
    let φ = w.form in
    let rs = φ.roles.now in
    let e : c.lead_of-lead.result ≡ lead_to rs (min φ.vee (length rs)) = c.lead_of-lead.ensures.0 ∙ rw c.min.ensures (lead_part rs φ.vee φ.kind) in
    let q : c.lead_of-lead.result + c.reach_of.result ≡ nine_in rs (min φ.vee (length rs)) = rw (c.reach_of.ensures.0, c.min.ensures) (reach_part rs φ.vee φ.kind c.lead_of-lead.result e) in
    all_parts w.table.now rs φ.vee φ.kind w.negative c.args.magnitude _ _ e q c.args.field.now _ _ _
    (rw c.requires at (c.print_down-left.ensures.memory _ (λ k h. behind w.table.now rs φ.vee φ.kind w.negative c.args.magnitude _ q k h)))
    (c.hide_down.ensures.memory c.args.magnitude (rw q (lead_between rs φ.vee φ.kind _ e)) c.print_down-left.ensures.left)
    c.put_marks.ensures
    ∙ sets_all c.args.field.now (up_to (length rs) _) (rw (length_up_to _ (length rs)) (sym c.requires))
