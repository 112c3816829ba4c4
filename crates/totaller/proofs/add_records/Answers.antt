-- `totaller::add_records` adds record k from line k, and the lines that are left are those behind it; at the
-- end no line is left. Assumes nothing.
use mathlib.Core.Path.{refl, sym, ◌∙◌}
use Prim.Native.Nat.{◌+◌}
use native.Mathlib.Numerals.{add-one}
use native.Mathlib.Omega.{arith}
use borrow.Author.Rules.{rules}
use Rattle.listing.specs.Program.{lines_in, lines_left}
use Rattle.listing.proofs.Splitting.{NextLine, next_line, none_behind, lines_few}
use Rattle.listing.proofs.Printing.{layout_there}
use Rattle.listing.proofs.TotalPrinting.{none_added}
use Rattle.totaller.proofs.add_records.Goals as goal

pub loop-line-init : goal.loop-line-init
loop-line-init c =
    let p = c.requires in
    record {
      can = tt;
      finite = tt;
      left = rw c.into_iter-line-iterator.ensures.into_iter_gives p.input.1;
      there = layout_there _ _ p.input.0 p.plan;
      refusals = omega arith;
      room = refl;
      adding = rw c.empty.ensures (none_added _ _ p.plan p.input.0);
      goes_on = refl;
      printed = λ e. e;
    }

pub add_next-course-requires-clause-line : goal.add_next-course-requires-clause-line
add_next-course-requires-clause-line c =
    let l = next_line _ _ _ _ (sym c.loop-line.invariant.left ∙ c.in-Some.ensures.steps) in
    (l.there, l.is)

pub add_next-course-requires-clause-few : goal.add_next-course-requires-clause-few
add_next-course-requires-clause-few c = (omega (arith, lines_few c.args.input.now), c.loop-line.invariant.refusals)

pub loop-line-preserved : goal.loop-line-preserved
loop-line-preserved c =
    let v = c.loop-line.invariant in
    let l : NextLine (lines_in c.args.input.now) (c.loop-line.course.records + 1) c.in-Some.line.now (lines_left c.next.new.self) =
    next_line _ _ _ _ (sym v.left ∙ c.in-Some.ensures.steps) in
    let e = c.add_next-course.ensures in
    record {
      can = tt;
      finite = tt;
      left = rw e.one.0 l.next;
      there = omega (arith, l.there);
      refusals = e.one.1;
      room = search rules;
      adding = e.adds;
      goes_on = search (rules, sym c.is_some.ensures ∙ c.if-is_some.false);
      printed = λ w. v.printed (e.whole w);
    }

pub returns-clause-all : goal.returns-clause-all
returns-clause-all c =
    let v = c.loop-line.invariant in
    let all = none_behind _ _ (sym c.in-None.ensures.steps.0 ∙ v.left) v.there in
    record { adding = v.adding; ends = λ z. sym (add-one _) ∙ all }
