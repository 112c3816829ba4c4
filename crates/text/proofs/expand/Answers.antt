-- `text::expand` meets its contract: each way through it is a law of Ways. Assumes nothing.
use borrow.Author.Rules.{rules}
use mathlib.Core.Path.{◌≡◌, sym, ◌∙◌}
use Rattle.std.specs.Prelude.{Err}
use Rattle.text.proofs.Ways.{fits, ill_fitting, ill_spelled, too_many, all_fits}
use Rattle.text.proofs.expand.Goals as goal

pub spell-requires : goal.spell-requires
spell-requires c = fits _ (sym c.text_fits.ensures ∙ c.if-not-text_fits.false)

pub returns-then-not-text_fits : goal.returns-then-not-text_fits
returns-then-not-text_fits c = ill_fitting _ (sym c.text_fits.ensures ∙ c.if-not-text_fits.true)

pub returns-in_err-picture : goal.returns-in_err-picture
returns-in_err-picture c =
    let e : (c.from_residual.result ≡ Err c.in_err-picture.field-0.0) = search rules in
    rw e (ill_spelled _ (sym c.text_fits.ensures ∙ c.if-not-text_fits.false) _ (sym c.in_err-picture.was ∙ c.spell.ensures))

pub returns-then-picture-gt-MOST_SYMBOLS : goal.returns-then-picture-gt-MOST_SYMBOLS
returns-then-picture-gt-MOST_SYMBOLS c =
    too_many _ (sym c.text_fits.ensures ∙ c.if-not-text_fits.false) _ (sym c.in_ok-picture.was ∙ c.spell.ensures) c.if-picture-gt-MOST_SYMBOLS.true

pub returns : goal.returns
returns c =
    all_fits _ (sym c.text_fits.ensures ∙ c.if-not-text_fits.false) _ (sym c.in_ok-picture.was ∙ c.spell.ensures) c.if-picture-gt-MOST_SYMBOLS.false
