-- `wire::put_row` meets its contract: the bytes of the numbers passed stand before what was there. Assumes
-- nothing.
use mathlib.Core.Path.{◌≡◌, ap, ◌∙◌}
use Prim.Native.Nat.{◌*◌}
use native.Mathlib.Omega.{arith}
use borrow.Author.Rules.{rules}
use lib.IntN.{ℤ, pos}
use lib.ListN.{length, get_or}
use mir.Syntax.{w64}
use mir.Val.{SFits}
use mir.Facts.{to_z-of_z}
use Rattle.wire.specs.Run.{put_at}
use Rattle.wire.proofs.Rows.{row_put, put_row_in}
use Rattle.wire.proofs.put_row.Goals as goal

pub loop-k-preserved : goal.loop-k-preserved
loop-k-preserved c =
    let f : SFits w64 (get_or c.args.row.now c.loop-k.k (pos 0)) = search rules in
    c.store.ensures.memory
    ∙ ap (λ (z : ℤ). put_at c.loop-k.run (8 * c.loop-k.k) z) (to_z-of_z f)
    ∙ rw c.loop-k.invariant (row_put c.args.row.now c.loop-k.k c.args.run.now (omega arith) (omega arith))

pub returns : goal.returns
returns c =
    let all : c.loop-k.k ≡ length c.args.row.now = omega arith in
    record { memory = c.loop-k.invariant ∙ rw all (put_row_in c.args.run.now c.args.row.now (omega arith)) }
