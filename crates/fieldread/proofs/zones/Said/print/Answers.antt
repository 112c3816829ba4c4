-- `print`: a digit and a mark are the two ways of the definition; a digit shows its own where its character stands in the symbol's list. Assumes
-- nothing.
use mathlib.Core.Path.{sym, ◌∙◌}
use mathlib.Core.Bool.{true, false}
use Rattle.rules.specs.Edit.{printed}
use Rattle.rules.proofs.Characters.{list_tells}
use Rattle.fieldread.specs.Zones.{mark_step, print_step}
use Rattle.fieldread.proofs.zones.Said.print.Goals as goal

pub returns-then-not-is_digit : goal.returns-then-not-is_digit
unfolding print_step mark_step printed
returns-then-not-is_digit c = rw (c.print_mark.ensures, sym c.is_digit.ensures ∙ c.if-not-is_digit.true)

pub returns : goal.returns
unfolding print_step printed
returns c =
    let a = c.args in
    rw (
      c.from.ensures,
      c.list_of.ensures,
      c.list_of-2.ensures,
      c.list_in-list.ensures,
      c.digit_in.ensures.0,
      sym c.is_digit.ensures ∙ c.if-not-is_digit.false,
      ← list_tells a.role false a.c,
      ← list_tells a.role true a.c,
    )
