-- `settled`: the ways out are the cases of `read_of`. Assumes nothing.
use borrow.Author.Tests.{not-false, not-true}
use mathlib.Core.Path.{sym, ◌∙◌}
use mir.Facts.{to_z_pos}
use mir.Syntax.{w64}
use Rattle.rules.specs.Form.{form_in}
use Rattle.decimal.proofs.Signs.{neg_fits, to_neg}
use Rattle.fieldread.proofs.Passing.{settled_minus, settled_other, settled_plus, settled_small, settled_unsigned, settled_zero}
use Rattle.fieldread.proofs.asked.Asked.settled.Goals as goal
use Rattle.fieldread.proofs.asked.Asked.settled.Goals.{then-sides-eq0-via-then-sides-eq0, then-sides-eq0-via-else-sides-eq0+then-not-sides, then-sides-eq0-via-else-sides-eq0+else-not-sides+then-not-is_signed}

pub overflow_cast-value : goal.overflow_cast-value
overflow_cast-value c = record { sfits = settled_small _ _ _ c.requires c.args.self.now.few }

pub returns-then-is_plus : goal.returns-then-is_plus
returns-then-is_plus c =
    let a = c.args.self.now in
    rw (to_z_pos w64 (settled_small _ _ _ c.requires a.few)) (settled_plus (form_in a.form) a.field.now _ c.requires a.long (sym c.is_plus.ensures ∙ c.if-is_plus.true))

pub returns-then-sides-eq0 : goal.returns-then-sides-eq0
returns-then-sides-eq0 c =
    let a = c.args.self.now in
    let no_plus = sym c.is_plus.ensures ∙ c.if-is_plus.false in
    elim c.then-sides-eq0.branch [ then-sides-eq0-via-then-sides-eq0 w ↦ settled_zero (form_in a.form) a.field.now _ c.requires no_plus a.long w.if-sides-eq0.true | then-sides-eq0-via-else-sides-eq0+then-not-sides w ↦ settled_other (form_in a.form) a.field.now _ c.requires no_plus w.if-sides-eq0.false (not-true _ w.if-not-sides.true) | then-sides-eq0-via-else-sides-eq0+else-not-sides+then-not-is_signed w ↦ settled_unsigned (form_in a.form) a.field.now _ c.requires no_plus (sym w.is_signed.ensures ∙ w.if-not-is_signed.true) ]

pub overflow_sub-result : goal.overflow_sub-result
overflow_sub-result c = neg_fits c.args.sides.value (settled_small _ _ _ c.requires c.args.self.now.few)

pub returns : goal.returns
returns c =
    let a = c.args.self.now in
    let no_plus = sym c.is_plus.ensures ∙ c.if-is_plus.false in
    rw (to_neg _ (settled_small _ _ _ c.requires a.few)) (settled_minus (form_in a.form) a.field.now _ c.requires no_plus c.if-sides-eq0.false (not-false _ c.if-not-sides.false) (sym c.is_signed.ensures ∙ c.if-not-is_signed.false))
