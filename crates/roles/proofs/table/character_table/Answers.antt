-- `character_table`: the table is the list that its rule computes to. Assumes nothing.
use mathlib.Core.Path.{refl}
use Rattle.roles.specs.Table.{characters}
use Rattle.roles.proofs.table.character_table.Goals as goal

pub returns : goal.returns
unfolding characters
returns c = refl
