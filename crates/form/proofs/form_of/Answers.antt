-- `form::form_of` meets its contract: kind, roles and V's place are those of `form_of`. Assumes nothing.
use native.Mathlib.Omega.{arith}
use Rattle.form.specs.Rooms.{begun, meaning_of}
use Rattle.form.proofs.Symbols.{before_is}
use Rattle.rules.specs.Text.{the_v}
use mathlib.Core.Path.{◌∙◌}
use Rattle.form.proofs.Rows.{placed_form}
use Rattle.form.proofs.form_of.Goals as goal

pub place_all-requires : goal.place_all-requires
unfolding begun meaning_of
place_all-requires c = rw c.new-placed.ensures (omega arith)

pub returns : goal.returns
returns c =
    rw (c.place_all.ensures, c.new-placed.ensures, ← c.held-symbols.ensures.symbols)
    (placed_form _ _ _ c.held-symbols.ensures.few (c.vee_of.ensures ∙ before_is the_v _) c.kind_of.ensures)
