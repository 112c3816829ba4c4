-- `wire::get_row` meets its contract: the numbers read stand before the places not reached. Assumes nothing.
use mathlib.Core.Path.{◌≡◌, ◌∙◌}
use native.Mathlib.Omega.{arith}
use lib.ListN.{length}
use mir.Syntax.{w64}
use mir.Val.{SFits}
use mir.Facts.{to_z-of_z}
use Rattle.wire.proofs.Rows.{get_row_in, get_row_more}
use Rattle.wire.proofs.get_row.Goals as goal

pub loop-k-preserved : goal.loop-k-preserved
loop-k-preserved c =
    let f : SFits w64 c.get.result = record { sfits = c.get.type_inv } in
    rw (to_z-of_z f, c.get.ensures, c.loop-k.invariant) (get_row_more c.args.run.now c.args.row.now c.loop-k.k (omega arith) (omega arith))

pub returns : goal.returns
returns c =
    let all : c.loop-k.k ≡ length c.args.row.now = omega arith in
    record { memory = c.loop-k.invariant ∙ rw all (get_row_in c.args.run.now c.args.row.now (omega arith)) }
