-- `listing::walk::LinesIterator::next` meets its contract: what stands up to the first end is the first line.
-- Assumes nothing.
use mathlib.Core.Path.{◌≡◌, sym, ap}
use mathlib.Core.List.{◌∷◌}
use Prim.Native.Nat.{◌-◌}
use lib.ListN.{length, take, drop}
use lib.Seq.{length-take-le}
use borrow.Author.Rules.{rules}
use Rattle.listing.specs.Program.{lines_in}
use Rattle.std.proofs.lemmas.List.{take_rest}
use Rattle.listing.proofs.Splitting.{walk_inside, walk_next, walk_last}
use Rattle.listing.proofs.walk.LinesIterator.next.Goals as goal

pub returns-then-is_empty-clause-steps : goal.returns-then-is_empty-clause-steps
returns-then-is_empty-clause-steps c = let e = walk_last c.args.self.now.rest.now (search rules) in (e, e)

pub overflow_add-end : goal.overflow_add-end
overflow_add-end c = let h = walk_inside _ _ c.line_end-end.ensures in search rules

pub slice_bounds-result-end : goal.slice_bounds-result-end
slice_bounds-result-end c = sym (length-take-le _ _ (walk_inside _ _ c.line_end-end.ensures))

pub returns-clause-steps : goal.returns-clause-steps
returns-clause-steps c =
    let rest = c.args.self.now.rest.now in
    rw (take_rest rest c.min.result, c.min.ensures) (walk_next rest _ (search rules) c.line_end-end.ensures)

pub returns-clause-goes : goal.returns-clause-goes
returns-clause-goes c =
    let rest = c.args.self.now.rest.now in
    let m = c.min.result in
    let e : lines_in rest ≡ take c.line_end-end.result rest ∷ lines_in (take (length rest - m) (drop m rest)) =
    rw (take_rest rest m, c.min.ensures) (walk_next rest _ (search rules) c.line_end-end.ensures) in
    let shorter = ap length e in
    search rules
