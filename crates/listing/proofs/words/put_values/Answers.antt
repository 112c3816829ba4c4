-- `listing::words::put_values` meets its contract: each turn writes a comma and the next value behind what
-- has been written. Assumes nothing.
use native.Mathlib.Omega.{arith}
use lib.IntN.{pos}
use lib.ListN.{get_or}
use mir.Syntax.{w64}
use mir.Val.{SFits}
use mir.Facts.{to_z-of_z}
use borrow.Author.Rules.{rules}
use Rattle.listing.specs.Put.{behind}
use Rattle.listing.proofs.Numerals.{signed_same}
use Rattle.listing.proofs.Writing.{put_none}
use Rattle.listing.proofs.Values.{values_room, values_more, values_all}
use Rattle.listing.proofs.words.put_values.Goals as goal

pub loop-value-init : goal.loop-value-init
unfolding behind
loop-value-init c = put_none _ _

pub put_next-place-requires : goal.put_next-place-requires
put_next-place-requires c =
    let room = values_room c.args.row.now c.loop-value.invariant (omega arith) c.requires.1 in
    omega arith

pub loop-value-preserved : goal.loop-value-preserved
loop-value-preserved c =
    let f : SFits w64 (get_or c.args.row.now c.loop-value.value-index (pos 0)) = search rules in
    let g = rw (to_z-of_z f, signed_same _ f) at c.put_next-place.ensures in
    values_more c.args.row.now c.loop-value.invariant (omega arith) g

pub returns : goal.returns
returns c = values_all c.args.row.now c.loop-value.invariant (omega arith)
