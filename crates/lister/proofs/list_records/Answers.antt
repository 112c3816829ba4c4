-- `lister::list_records` prints record k's line from line k, and the lines that are left are those behind it;
-- at the end no line is left. A line says one refusal at most, and those said so far are counted. Assumes
-- nothing.
use Prim.Native.Nat.{◌≤◌}
use mathlib.Core.Path.{refl, sym, ◌∙◌}
use native.Mathlib.Omega.{arith}
use borrow.Author.Rules.{rules}
use Rattle.listing.proofs.Splitting.{next_line, none_behind, lines_few}
use Rattle.listing.proofs.Printing.{record_printed, count_taken, layout_there}
use Rattle.remarks.proofs.Counting.{one_more, one_most}
use Rattle.lister.proofs.list_records.Goals as goal

pub loop-line-init : goal.loop-line-init
loop-line-init c =
    let p = c.requires in
    record {
      can = tt;
      finite = tt;
      left = rw c.into_iter-line-iterator.ensures.into_iter_gives p.input.1;
      there = layout_there _ _ p.input.0 p.plan;
      refusals = omega arith;
      kept = refl;
      room = refl;
      counted = refl;
      printed = λ e. e;
    }

pub overflow_add-records : goal.overflow_add-records
overflow_add-records c = record { fits = omega (arith, lines_few c.args.input.now) }

pub print_line-whole-requires : goal.print_line-whole-requires
print_line-whole-requires c =
    let p = c.requires in
    let l = next_line _ _ _ _ (sym c.loop-line.invariant.left ∙ c.in-Some.ensures.steps) in
    record_printed _ _ p.input.0 p.plan _ _ c.loop-line.out _ _ (omega arith) l.there l.is (omega arith) c.kept_line-n.ensures.line

pub overflow_add-refused : goal.overflow_add-refused
overflow_add-refused c =
    let h : c.from-refused.result ≤ 1 = rw c.from-refused.ensures (one_most _) in
    record { fits = omega (arith, lines_few c.args.input.now) }

pub loop-line-preserved : goal.loop-line-preserved
loop-line-preserved c =
    let p = c.requires in
    let v = c.loop-line.invariant in
    let l = next_line _ _ _ _ (sym v.left ∙ c.in-Some.ensures.steps) in
    let f : c.from-refused.result ≤ 1 = rw c.from-refused.ensures (one_most _) in
    let t = record_printed _ _ p.input.0 p.plan _ _ c.loop-line.out _ _ (omega arith) l.there l.is (omega arith) c.kept_line-n.ensures.line in
    record {
      can = tt;
      finite = tt;
      left = l.next;
      there = omega (arith, l.there);
      refusals = omega arith;
      kept = search rules;
      room = search rules;
      counted = rw (c.from-refused.ensures, c.says_refusal.ensures) (one_more c.args.input.now c.loop-line.records _ _ v.counted t);
      printed = λ e. v.printed (c.print_line-whole.ensures e);
    }

pub returns-clause-lines : goal.returns-clause-lines
returns-clause-lines c =
    let v = c.loop-line.invariant in
    none_behind _ _ (sym c.in-None.ensures.steps.0 ∙ v.left) v.there ∙ count_taken _ _ c.requires.input.0 c.requires.plan

pub returns-clause-few : goal.returns-clause-few
returns-clause-few c =
    let v = c.loop-line.invariant in
    omega (arith, lines_few c.args.input.now)
