-- `listing::kept_line` meets its contract: what is lent on is the line, from the record's first places or from where it stands. Assumes
-- nothing.
use mathlib.Core.Path.{sym, ◌∙◌, ap}
use lib.ListN.{length}
use Rattle.listing.proofs.Keeping.{kept_out, kept_in_lem, kept_line}
use Rattle.listing.proofs.kept_line.Goals as goal

pub returns-then-record-n : goal.returns-then-record-n
returns-then-record-n c =
    let w = c.record_line.ensures in
    record { line = w.line; kept = kept_out _ _ c.if-record-n.true; within = w.within }

pub slice_bounds-record_line-end-2 : goal.slice_bounds-record_line-end-2
slice_bounds-record_line-end-2 c =
    let a = c.args in
    sym (ap length (kept_line a.line.now a.«record».now _ c.put.ensures.memory c.if-record-n.false))

pub returns : goal.returns
returns c =
    let a = c.args in
    let e = c.put.ensures.memory in
    let h = c.if-record-n.false in
    let w = c.record_line-2.ensures in
    record { line = rw (kept_line a.line.now a.«record».now _ e h) at w.line; kept = e ∙ kept_in_lem _ _ h; within = w.within }
