-- `planread::batch::added_at` meets its contract: each way through it is a law of Additions, by what was
-- found at the place. Assumes nothing.
use mathlib.Core.Path.{sym, ◌∙◌}
use borrow.Author.Rules.{rules}
use native.Mathlib.Omega.{arith}
use lib.ListN.{length}
use Rattle.totals.proofs.Places.{Here, was_end, was_record, was_refused}
use Rattle.planread.proofs.Additions.{end_place, full_place, length_place, part_place, size_fits}
use Rattle.planread.proofs.batch.added_at.Goals as goal

pub returns-then-sheet-ge-MOST_RECORDS : goal.returns-then-sheet-ge-MOST_RECORDS
returns-then-sheet-ge-MOST_RECORDS c = rw (c.unchanged.ensures, c.into.ensures) (full_place _ _ _ _ (omega (arith, c.if-sheet-ge-MOST_RECORDS.true)))

pub next_of-requires : goal.next_of-requires
next_of-requires c = rw c.record_length.ensures (size_fits _ c.args.plan.accepted)

pub slice_bounds-added-count : goal.slice_bounds-added-count
slice_bounds-added-count c =
    let here = was_record _ _ _ _ _ (sym (rw c.in-Ok-Some.field-0-is at c.in-Ok-Some.ensures)) in
    omega (arith, here.first, here.last)

pub slice_bounds-added-start : goal.slice_bounds-added-start
slice_bounds-added-start c =
    let h : Here c.record_length.result (length c.args.batch.now) c.args.place c.in-Ok-Some.here.from c.in-Ok-Some.here.to = was_record _ _ _ _ _ (sym (rw c.in-Ok-Some.field-0-is at c.in-Ok-Some.ensures)) in
    search rules

pub slice_bounds-added-end : goal.slice_bounds-added-end
slice_bounds-added-end c =
    let h : Here c.record_length.result (length c.args.batch.now) c.args.place c.in-Ok-Some.here.from c.in-Ok-Some.here.to = was_record _ _ _ _ _ (sym (rw c.in-Ok-Some.field-0-is at c.in-Ok-Some.ensures)) in
    search rules

pub returns-in-Ok-Some : goal.returns-in-Ok-Some
returns-in-Ok-Some c =
    let h = was_record _ _ _ _ _ (sym (rw c.in-Ok-Some.field-0-is at c.in-Ok-Some.ensures)) in
    let e = c.record_length.ensures in
    c.added.ensures ∙ part_place _ _ _ _ (rw e at h.fits) h.more (rw e at h.within) _ _ h.first (rw e at h.last)

pub returns-in-Ok-None : goal.returns-in-Ok-None
returns-in-Ok-None c =
    let w = was_end _ _ _ (sym (rw c.in-Ok-None.field-0-is at c.in-Ok-None.ensures)) in
    rw c.unchanged-in-Ok-None.ensures (end_place _ _ _ _ (omega (arith, c.if-sheet-ge-MOST_RECORDS.false)) (rw c.record_length.ensures at w.0) w.1)

pub returns-in-Err : goal.returns-in-Err
returns-in-Err c =
    let w = was_refused _ _ _ _ (sym c.in-Err.ensures) in
    rw (c.unchanged-in-Err.ensures, c.into-in-Err.ensures, w.1) (length_place _ _ _ _ (omega (arith, c.if-sheet-ge-MOST_RECORDS.false)) (rw c.record_length.ensures at w.0))
