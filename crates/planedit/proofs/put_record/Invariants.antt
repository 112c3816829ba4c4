-- `planedit::put_record` meets its contract: each turn and the end are laws of Writing. Assumes nothing.
use Rattle.plan.specs.Walk.{forms_left}
use Rattle.planedit.proofs.Writing.{Whole, Written}
use Rattle.planedit.proofs.put_record.Given as goal

abbrev pub invariant-loop-form : goal.invariant-loop-form
invariant-loop-form l = record {
  can : (goal.iterator-loop-form).can_next l.form-iterator;
  finite : (goal.iterator-loop-form).is_finite l.form-iterator;
  written : Written (forms_left l.form-iterator.a) l.form-iterator.b.rest.now l.from l.out (Whole l.plan.bytes.now l.row l.initial.out);
}
