-- `planread::run::run_fields` meets its contract: each turn, the stop and the end are laws of Turns. Assumes
-- nothing.
use Rattle.rules.specs.PlanBytes.{forms_in}
use Rattle.rules.specs.Candidate.{read_all}
use Rattle.plan.specs.Walk.{forms_left}
use Rattle.planread.specs.Runs.{ran_from}
use Rattle.planread.proofs.Turns.{Onward}
use Rattle.planread.proofs.run.run_fields.Given as goal

abbrev pub invariant-loop-i : goal.invariant-loop-i
invariant-loop-i l = record {
  can : (goal.iterator-loop-i).can_next l.i-iterator;
  finite : (goal.iterator-loop-i).is_finite l.i-iterator;
  onward : Onward (forms_left l.i-iterator.iter) l.rest l.values l.i-iterator.count (ran_from 0 l.initial.values (read_all (forms_in l.plan.bytes.now) l.«record»));
}
