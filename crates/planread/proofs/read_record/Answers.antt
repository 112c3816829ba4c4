-- `planread::read_record` meets its contract: each way through it is a law of Ways. Assumes nothing.
use mathlib.Core.Path.{sym, refl, ◌∙◌}
use native.Mathlib.Omega.{arith}
use lib.ListN.{length-take}
use Rattle.rules.proofs.PlanWalk.{plan_parts}
use Rattle.rules.proofs.Refusing.{passed_on}
use Rattle.planread.proofs.Ways.{no_room, other_length, reads, says_nothing}
use Rattle.planread.proofs.read_record.Goals as goal

pub returns-then-record-record_length : goal.returns-then-record-record_length
returns-then-record-record_length c =
    let w = other_length c.args.plan.bytes.now c.args.«record».now c.args.row.now (λ e. c.if-record-record_length.true (e ∙ sym c.record_length.ensures)) in
    record { answer = rw c.into.ensures w.0; memory = w.1 }

pub returns-then-row-count : goal.returns-then-row-count
returns-then-row-count c =
    let w = no_room c.args.plan.bytes.now c.args.«record».now c.args.row.now (c.if-record-record_length.false ∙ c.record_length.ensures) (omega (arith, c.field_count-count.ensures, c.if-row-count.true)) in
    record { answer = rw c.into-then-row-count.ensures w.0; memory = w.1 }

pub returns-in_err-run_fields : goal.returns-in_err-run_fields
returns-in_err-run_fields c =
    let w = says_nothing c.args.plan.bytes.now c.args.«record».now c.args.row.now (c.if-record-record_length.false ∙ c.record_length.ensures) (omega (arith, c.field_count-count.ensures, c.if-row-count.false)) _ refl _ c.run_fields.ensures _ c.in_err-run_fields.was in
    record { answer = passed_on _ _ c.from_residual.ensures.1 ∙ w.0; memory = w.1 }

pub slice_bounds-values-end : goal.slice_bounds-values-end
slice_bounds-values-end c = omega (arith, (plan_parts _ c.args.plan.accepted).few, c.field_count-count.ensures, c.run_fields.array_long)

pub slice_bounds-copy_from_slice-end-3 : goal.slice_bounds-copy_from_slice-end-3
slice_bounds-copy_from_slice-end-3 c = simp length-take (omega (arith, (plan_parts _ c.args.plan.accepted).few, c.field_count-count.ensures, c.run_fields.array_long))

pub copy_from_slice-requires : goal.copy_from_slice-requires
copy_from_slice-requires c = simp length-take (omega (arith, (plan_parts _ c.args.plan.accepted).few, c.field_count-count.ensures, c.run_fields.array_long, c.if-row-count.false))

pub returns : goal.returns
returns c =
    let n = c.field_count-count.ensures in
    let w = reads c.args.plan.bytes.now c.args.«record».now c.args.row.now (c.if-record-record_length.false ∙ c.record_length.ensures) (omega (arith, c.field_count-count.ensures, c.if-row-count.false)) _ refl _ c.run_fields.ensures c.args.plan.accepted c.in_ok-run_fields.was _ refl in
    record { answer = rw n w.0; memory = rw (c.copy_from_slice.ensures.after, n) w.1 }
