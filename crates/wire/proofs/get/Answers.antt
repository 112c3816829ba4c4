-- `wire::get` meets its contract: the eight bytes that are taken are those from byte `at` on. Assumes
-- nothing.
use mathlib.Core.Path.{◌∙◌}
use native.Mathlib.Omega.{arith}
use mir.Syntax.{w64}
use mir.Facts.{to_z-of_z}
use Rattle.std.proofs.lemmas.Result.{MatchResult-at_ok}
use Rattle.wire.proofs.Run.{get_part}
use Rattle.wire.proofs.get.Goals as goal

pub returns : goal.returns
returns c =
    let chunk = MatchResult-at_ok _ _ _ c.unwrap.ensures c.try_into.ensures.1 in
    to_z-of_z {w = w64} (record { sfits = c.from_le_bytes.type_inv }) ∙ c.from_le_bytes.ensures ∙ get_part _ _ _ (omega arith) chunk
