-- `put`: each way through it is a law of Puts. Assumes nothing.
use mathlib.Core.Path.{◌≡◌, ap, ◌∙◌}
use mathlib.Core.Bool.{false, not}
use Prim.Native.Nat.{◌+◌, ◌-◌, ◌<◌}
use native.Mathlib.Omega.{arith}
use lib.ListN.{length}
use Rattle.rules.specs.Edit.{is_blank}
use Rattle.rules.specs.Form.{form_in}
use Rattle.rules.proofs.Search.{length_up_to}
use Rattle.field.proofs.Bytes.{part_sets}
use Rattle.field.proofs.Puts.{nine_shows, put_blanked, put_out, put_showing, some_shows}
use Rattle.field.proofs.put.Goals as goal
use Rattle.field.proofs.put.Goals.{then-out-size-via-then-out-size, then-out-size-via-else-out-size+then-out-size-2, else-signed-eq0-via-then-signed-eq0+else-not-any_nine, else-signed-eq0-via-else-signed-eq0}

pub returns-then-out-size : goal.returns-then-out-size
returns-then-out-size c =
    let a = c.args in
    let l : length a.out.now < a.from + length a.form.roles.now =
    elim c.then-out-size.branch [ then-out-size-via-then-out-size w ↦ omega arith | then-out-size-via-else-out-size+then-out-size-2 w ↦ omega arith ] in
    record { memory = put_out a.table.now (form_in a.form) a.signed.negative a.signed.magnitude a.from a.out.now l }

pub returns-then-not-any_nine : goal.returns-then-not-any_nine
returns-then-not-any_nine c =
    let a = c.args in
    let n : length c.put_blank.new.field ≡ a.from + length a.form.roles.now - a.from = rw c.put_blank.ensures (length_up_to _ _ ∙ omega arith) in
    record {
      memory =
          part_sets a.out.now c.put_blank.new.field a.from _ n (omega arith)
          ∙ put_blanked a.table.now (form_in a.form) a.signed.negative a.signed.magnitude a.from a.out.now (omega arith) c.if-signed-eq0.true c.any_nine.result c.any_nine.ensures (ap not c.if-not-any_nine.true) _ c.put_blank.ensures;
    }

pub returns-else-signed-eq0 : goal.returns-else-signed-eq0
returns-else-signed-eq0 c =
    let a = c.args in
    let φ = form_in a.form in
    let t = a.signed.magnitude in
    let n : length c.put_shown.new.field ≡ a.from + length a.form.roles.now - a.from = rw c.put_shown.ensures (length_up_to _ _ ∙ omega arith) in
    let b : is_blank φ t ≡ false =
    elim c.else-signed-eq0.branch [
      | else-signed-eq0-via-then-signed-eq0+else-not-any_nine w ↦ nine_shows φ t _ w.any_nine.ensures (ap not w.if-not-any_nine.false)
      | else-signed-eq0-via-else-signed-eq0 w ↦ some_shows φ t w.if-signed-eq0.false
    ] in
    record { memory = part_sets a.out.now c.put_shown.new.field a.from _ n (omega arith) ∙ put_showing a.table.now φ a.signed.negative t a.from a.out.now (omega arith) b _ c.put_shown.ensures }
