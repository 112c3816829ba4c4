-- `picture::verdict::judged_form` meets its contract: the picture is that of the text. Assumes nothing.
use mathlib.Core.Path.{◌∙◌, ap}
use Rattle.form.specs.Rooms.{meaning_of}
use Rattle.picture.proofs.Judging.{form_is}
use Rattle.picture.proofs.verdict.judged_form.Goals as goal

pub returns-clause-form : goal.returns-clause-form
returns-clause-form c = c.form_of.ensures ∙ ap meaning_of (form_is _ _ c.in_ok-picture.ensures.number c.in_ok-picture.ensures.picture)
