-- `planedit::edit_row` meets its contract: each way through it is a law of Ways. Assumes nothing.
use mathlib.Core.Path.{sym, ◌∙◌}
use native.Mathlib.Omega.{arith}
use Rattle.rules.proofs.Refusing.{passed_on}
use Rattle.planedit.proofs.Ways.{row_bad, row_done, row_other, row_ready, row_room}
use Rattle.planedit.proofs.edit_row.Goals as goal

pub returns-then-row-field_count : goal.returns-then-row-field_count
returns-then-row-field_count c = rw c.into.ensures (row_other _ _ _ (λ e. c.if-row-field_count.true (e ∙ sym c.field_count.ensures)))

pub returns-in_err-judge_row : goal.returns-in_err-judge_row
returns-in_err-judge_row c =
    rw (passed_on _ _ c.from_residual.ensures.1) (row_bad _ _ _ (c.if-row-field_count.false ∙ c.field_count.ensures) _ _ c.judge_row.ensures c.in_err-judge_row.was)

pub returns-then-out-length : goal.returns-then-out-length
returns-then-out-length c =
    rw c.into-then-out-length.ensures (row_room _ _ _ (c.if-row-field_count.false ∙ c.field_count.ensures) _ c.judge_row.ensures c.in_ok-judge_row.was (omega (arith, c.record_length-length.ensures, c.if-out-length.true)))

pub put_record-requires : goal.put_record-requires
put_record-requires c =
    row_ready _ _ _ (c.if-row-field_count.false ∙ c.field_count.ensures) _ c.judge_row.ensures c.in_ok-judge_row.was (omega (arith, c.record_length-length.ensures, c.if-out-length.false))

pub returns : goal.returns
returns c =
    rw c.record_length-length.ensures (row_done _ _ _ (c.if-row-field_count.false ∙ c.field_count.ensures) _ c.judge_row.ensures c.in_ok-judge_row.was (omega (arith, c.record_length-length.ensures, c.if-out-length.false)) _ c.put_record.ensures)
