-- `does_start`: V's place, a nine and a nonzero digit start printing, nothing else does. Assumes nothing.
use borrow.Author.Tests.{le-leb, lt-leb}
use mathlib.Core.Path.{sym, ◌∙◌}
use Prim.Native.Nat.{◌<◌}
use native.Mathlib.Omega.{arith}
use lib.ListN.{length}
use Rattle.rules.specs.Form.{form_in}
use Rattle.fieldread.proofs.Passing.{start_by_digit, start_least, start_nine, start_other}
use Rattle.fieldread.proofs.asked.Asked.does_start.Goals as goal

pub returns-then-before_vee-k : goal.returns-then-before_vee-k
returns-then-before_vee-k c =
    let φ = form_in c.args.self.now.form in
    let f = c.args.self.now.field.now in
    sym (le-leb _ c.args.k (omega (arith, start_least φ f)))

pub returns-then-is_nine : goal.returns-then-is_nine
returns-then-is_nine c = c.if-is_nine.true ∙ sym (le-leb _ _ (start_nine _ _ _ c.requires (sym c.is_nine.ensures ∙ c.if-is_nine.true)))

pub returns-then-is_digit : goal.returns-then-is_digit
returns-then-is_digit c =
    let φ = form_in c.args.self.now.form in
    let v : c.args.k < φ.vee = omega arith in
    let h : c.args.k < length φ.roles = omega arith in
    start_by_digit φ c.args.self.now.field.now _ c.requires v h _ (sym c.is_nine.ensures ∙ c.if-is_nine.false) (sym c.is_digit.ensures ∙ c.if-is_digit.true) c.digit_in.ensures.0

pub returns-else-is_digit : goal.returns-else-is_digit
returns-else-is_digit c =
    let φ = form_in c.args.self.now.form in
    let v : c.args.k < φ.vee = omega arith in
    let h : c.args.k < length φ.roles = omega arith in
    c.if-is_digit.false ∙ sym (lt-leb _ _ (start_other φ c.args.self.now.field.now _ c.requires v h (sym c.is_digit.ensures ∙ c.if-is_digit.false)))
