-- `is_plus`: the cells, or all positions hidden where everything is suppressed. Assumes nothing.
use mathlib.Core.Path.{sym, ◌∙◌}
use Rattle.rules.specs.Form.{form_in}
use Rattle.fieldread.proofs.Passing.{plus_blank, plus_nine, plus_some, sides_worth}
use Rattle.fieldread.proofs.asked.Asked.is_plus.Goals as goal
use Rattle.fieldread.proofs.asked.Asked.is_plus.Goals.{else-sides-eq0-via-then-sides-eq0+else-not-any_nine, else-sides-eq0-via-else-sides-eq0}

pub returns-then-not-any_nine : goal.returns-then-not-any_nine
returns-then-not-any_nine c =
    let φ = form_in c.args.self.now.form in
    rw c.is_all_hidden.ensures (plus_blank φ _ c.args.self.now.long (rw c.requires at c.if-sides-eq0.true) (sym c.any_nine.ensures ∙ c.if-not-any_nine.true))

pub returns : goal.returns
returns c =
    elim c.else-sides-eq0.branch [ else-sides-eq0-via-then-sides-eq0+else-not-any_nine w ↦ rw c.requires (plus_nine _ _ (sym w.any_nine.ensures ∙ w.if-not-any_nine.false)) | else-sides-eq0-via-else-sides-eq0 w ↦ (let z = rw c.requires at w.if-sides-eq0.false in rw c.requires (plus_some _ _ (λ q. z (sides_worth _ _ z ∙ q)))) ]
