-- `layout::writing::put_forms` meets its contract, by the laws of `Putting`. Assumes nothing.
use mathlib.Core.Path.{refl}
use native.Mathlib.Omega.{arith}
use Rattle.std.proofs.lemmas.Result.{IfOk-at_ok}
use Rattle.rules.specs.Layout.{forms}
use Rattle.picture.proofs.Lent.{size_is, lent_is}
use Rattle.layout.proofs.Puts.{no_refusal, next_accepted, next_fits, putting_more, putting_done}
use Rattle.layout.proofs.writing.put_forms.Goals as goal

pub unwrap-form-requires : goal.unwrap-form-requires
unwrap-form-requires c =
    no_refusal _ _ c.judged_form.ensures.number (next_accepted _ _ _ _ _ _ _ _ c.loop-text.invariant.2 _ _ c.in-Some.ensures.steps)

pub put_form-requires : goal.put_form-requires
put_form-requires c =
    let m = IfOk-at_ok _ c.unwrap-form.ensures c.judged_form.ensures.form in
    next_fits _ _ _ _ _ _ _ _ c.loop-text.invariant.2 _ _ c.in-Some.ensures.steps _ (lent_is _ _ m _ c.lent.ensures)

pub overflow_add-at : goal.overflow_add-at
overflow_add-at c =
    let m = IfOk-at_ok _ c.unwrap-form.ensures c.judged_form.ensures.form in
    let f = next_fits _ _ _ _ _ _ _ _ c.loop-text.invariant.2 _ _ c.in-Some.ensures.steps _ refl in
    omega (arith, f.roles, size_is _ _ m)

pub loop-text-preserved : goal.loop-text-preserved
loop-text-preserved c =
    let m = IfOk-at_ok _ c.unwrap-form.ensures c.judged_form.ensures.form in
    (tt, tt, putting_more _ _ _ _ _ _ _ _ c.loop-text.invariant.2 _ _ c.in-Some.ensures.steps _ (lent_is _ _ m _ c.lent.ensures) _ c.put_form.ensures _ (size_is _ _ m))

pub returns : goal.returns
unfolding forms
returns c = putting_done _ _ _ _ _ _ _ _ c.loop-text.invariant.2 c.in-None.ensures.steps.0
