-- `collector::sheets::put_sheet` meets its contract: its four parts are put one behind the other. Assumes
-- nothing.
use mathlib.Core.Path.{◌≡◌, ap, ◌∙◌}
use native.Mathlib.Omega.{arith}
use borrow.Author.Rules.{rules}
use lib.IntN.{ℤ}
use lib.ListN.{length}
use mir.Syntax.{w64}
use mir.Facts.{to_z_pos}
use Rattle.wire.specs.Run.{put_at}
use Rattle.collector.proofs.Columns.{sheet_put}
use Rattle.collector.proofs.sheets.put_sheet.Goals as goal

pub returns : goal.returns
returns c =
    let s = c.args.sheet.now in
    let places : ((length s.sums ≡ 32) × (length s.least ≡ 32) × (length s.greatest ≡ 32)) =
    (search rules, search rules, search rules) in
    record {
      memory =
          let e = c.put.ensures.memory ∙ ap (λ (z : ℤ). put_at c.args.run.now 0 z) (to_z_pos w64 {n = s.count} (omega (arith, c.requires.1))) in
          sheet_put s places.0 places.1 places.2 c.args.run.now _ _ _ _ c.requires.0 e c.put_column.ensures.memory c.put_column-2.ensures.memory c.put_column-3.ensures.memory;
    }
