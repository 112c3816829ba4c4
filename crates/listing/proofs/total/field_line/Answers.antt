-- `listing::total::field_line` meets its contract: behind the last place nothing, else the three numbers at
-- the place. Assumes nothing.
use lib.IntN.{pos}
use lib.ListN.{get_or}
use mir.Syntax.{w64}
use mir.Val.{SFits}
use mir.Facts.{to_z-of_z}
use borrow.Author.Rules.{rules}
use Rattle.listing.proofs.TotalTexts.{no_line, place_none, place_some}
use Rattle.listing.proofs.total.field_line.Goals as goal

pub returns-then-i-ge-MOST_PICTURES : goal.returns-then-i-ge-MOST_PICTURES
returns-then-i-ge-MOST_PICTURES c =
    let e = place_none c.args.sheet.now c.args.i c.if-i-ge-MOST_PICTURES.true in
    let w = no_line c.args.out.now in
    record { answer = rw (← e) w.0; memory = rw (← e) w.1.0; within = w.1.1 }

pub returns : goal.returns
returns c =
    let s = c.args.sheet.now in
    let f : SFits w64 (get_or s.sums c.args.i (pos 0)) = search rules in
    let g : SFits w64 (get_or s.least c.args.i (pos 0)) = search rules in
    let h : SFits w64 (get_or s.greatest c.args.i (pos 0)) = search rules in
    let e = place_some s c.args.i c.if-i-ge-MOST_PICTURES.false in
    let w = c.put_row.ensures in
    record {
      answer = rw (← e) (rw (to_z-of_z f, to_z-of_z g, to_z-of_z h) at w.answer);
      memory = rw (← e) (rw (to_z-of_z f, to_z-of_z g, to_z-of_z h) at w.memory);
      within = w.within;
    }
