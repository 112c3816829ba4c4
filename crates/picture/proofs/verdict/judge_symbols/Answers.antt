-- `picture::verdict::judge_symbols` meets its contract, by the laws of Judging. Assumes nothing.
use mathlib.Core.Path.{◌≡◌, sym, ap, ◌∙◌}
use mathlib.Core.Bool.{true, ◌&&◌}
use mathlib.Core.List.{[], ◌∷◌}
use borrow.Author.Rules.{rules}
use borrow.Author.Tests.{not-true, not-false}
use lib.ListN.{length}
use Rattle.rules.specs.declared.Picture.{Picture}
use Rattle.rules.specs.Numbers.{SHAPE, DIGITS, unless, first_of}
use Rattle.rules.specs.Text.{held_in}
use Rattle.rules.specs.Form.{Form, form_of}
use Rattle.rules.specs.Shape.{one_v, one_drifts, suppression_apart}
use Rattle.rules.proofs.Expand.{spelled}
use Rattle.form.specs.declared.Meaning.{Meaning}
use Rattle.form.specs.Rooms.{meaning_of, meant}
use Rattle.form.proofs.Lent.{meant_of}
use Rattle.shape.specs.declared.Judged.{Judged}
use Rattle.shape.specs.Judge.{judged_of}
use Rattle.picture.specs.Verdicts.{shape_number}
use Rattle.picture.proofs.Judging.{held_length, many_v, many_kinds, judged_number}
use Rattle.picture.proofs.verdict.judge_symbols.Goals as goal
use Rattle.picture.proofs.verdict.judge_symbols.Goals.{then-not-one_v-via-then-not-one_v, then-not-one_v-via-else-not-one_v+then-not-one_suppresses}

pub returns-then-not-one_v : goal.returns-then-not-one_v
returns-then-not-one_v c =
    elim c.then-not-one_v.branch [ then-not-one_v-via-then-not-one_v w ↦ many_v _ (sym c.one_v.ensures ∙ w.if-not-one_v.true) | then-not-one_v-via-else-not-one_v+then-not-one_suppresses w ↦ many_kinds _ (sym c.one_v.ensures ∙ w.if-not-one_v.false) (sym w.one_suppresses.ensures ∙ w.if-not-one_suppresses.true) ]

-- what the pass found is the shape's number, by what was known before it
judged : (p : Picture) → length p.symbols ≡ 64 → spelled (held_in p) ≡ true → one_v (held_in p) ≡ true → (one_drifts (held_in p) && suppression_apart (held_in p)) ≡ true
    → (m : Meaning) → m ≡ meaning_of (form_of (held_in p)) → (φ : Form) → φ ≡ meant m → (j : Judged) → j ≡ judged_of φ
    → first_of (unless j.shaped SHAPE ∷ unless j.digits DIGITS ∷ []) ≡ shape_number (held_in p)
judged p l s v k m e φ f j g = judged_number (held_in p) s (held_length p l) v k j (g ∙ ap judged_of (f ∙ ap meant e ∙ meant_of _))

pub returns-then-not-judged : goal.returns-then-not-judged
unfolding first_of
returns-then-not-judged c =
    rw (not-true _ c.if-not-judged.true) at (judged _ (search rules) c.requires (sym c.one_v.ensures ∙ c.if-not-one_v.false) (sym c.one_suppresses.ensures ∙ c.if-not-one_suppresses.false)
    _ c.form_of.ensures _ c.lent.ensures _ c.judge-judged.ensures)

pub returns-then-not-judged-2 : goal.returns-then-not-judged-2
unfolding first_of
returns-then-not-judged-2 c =
    rw (not-false _ c.if-not-judged.false, not-true _ c.if-not-judged-2.true) at (judged _ (search rules) c.requires (sym c.one_v.ensures ∙ c.if-not-one_v.false) (sym c.one_suppresses.ensures ∙ c.if-not-one_suppresses.false)
    _ c.form_of.ensures _ c.lent.ensures _ c.judge-judged.ensures)

pub returns : goal.returns
unfolding first_of
returns c =
    rw (not-false _ c.if-not-judged.false, not-false _ c.if-not-judged-2.false) at (judged _ (search rules) c.requires (sym c.one_v.ensures ∙ c.if-not-one_v.false) (sym c.one_suppresses.ensures ∙ c.if-not-one_suppresses.false)
    _ c.form_of.ensures _ c.lent.ensures _ c.judge-judged.ensures)
