-- `digits_in`: what passes the filter is what counts. Assumes nothing.
use mathlib.Core.Path.{◌≡◌, ◌∙◌}
use borrow.Author.Rules.{rules}
use Rattle.std.specs.List.{count_by}
use Rattle.rules.specs.Roles.{is_digit}
use Rattle.rules.proofs.Library.{count_is}
use Rattle.field.proofs.survey.digits_in.Goals as goal

pub returns : goal.returns
returns c =
    let e : c.count.result ≡ count_by is_digit c.args.roles.now = search rules in
    e ∙ count_is is_digit c.args.roles.now
