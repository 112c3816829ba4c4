-- `planedit::judge_row` meets its contract: each turn, the stop and the end are laws of Judging. Assumes
-- nothing.
use Rattle.rules.specs.PlanBytes.{forms_in}
use Rattle.rules.specs.Answers.{edit_verdicts}
use Rattle.plan.specs.Walk.{forms_left}
use Rattle.planedit.specs.Rows.{bad_of}
use Rattle.planedit.proofs.Judging.{Judged}
use Rattle.planedit.proofs.judge_row.Given as goal

abbrev pub invariant-loop-i : goal.invariant-loop-i
invariant-loop-i l = record {
  can : (goal.iterator-loop-i).can_next l.i-iterator;
  finite : (goal.iterator-loop-i).is_finite l.i-iterator;
  judged : Judged (forms_left l.i-iterator.iter.a) l.i-iterator.iter.b.rest.now l.i-iterator.count (bad_of (edit_verdicts (forms_in l.plan.bytes.now) l.row));
}
