-- `form::kind_of` meets its contract: the kinds above have been asked. Assumes nothing.
use mathlib.Core.Path.{◌≡◌, sym, ◌∙◌}
use native.Mathlib.Omega.{arith}
use Rattle.rules.specs.Form.{kind_up_to}
use Rattle.form.proofs.Numbering.{kind_here, kind_below}
use Rattle.form.proofs.kind_of.Goals as goal

pub returns-then-does_suppress : goal.returns-then-does_suppress
returns-then-does_suppress c = sym (c.loop-kind.invariant ∙ kind_here _ _ c.loop-kind-test.true (sym c.does_suppress.ensures ∙ c.if-does_suppress.true))

pub loop-kind-preserved : goal.loop-kind-preserved
loop-kind-preserved c = c.loop-kind.invariant ∙ kind_below _ _ c.loop-kind-test.true (sym c.does_suppress.ensures ∙ c.if-does_suppress.false)

pub returns : goal.returns
unfolding kind_up_to
returns c = let e : c.loop-kind.kind ≡ 0 = omega arith in sym (rw e at c.loop-kind.invariant)
