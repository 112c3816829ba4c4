-- `collector::sheets::get_sheet` meets its contract. Assumes nothing.
use native.Mathlib.Omega.{arith}
use mir.Syntax.{w64}
use mir.Val.{SFits}
use mir.Facts.{to_z-of_z}
use Rattle.wire.proofs.Run.{get_in}
use Rattle.collector.specs.TotalRuns.{sheet_in}
use Rattle.collector.proofs.sheets.get_sheet.Goals as goal

pub returns : goal.returns
unfolding sheet_in
returns c =
    let f : SFits w64 c.get.result = record { sfits = c.get.type_inv } in
    rw (c.counted_of.ensures, to_z-of_z f, c.get.ensures, get_in c.args.run.now 0 (omega (arith, c.requires)), c.get_column.ensures, c.get_column-2.ensures, c.get_column-3.ensures)
