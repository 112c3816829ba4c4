-- `totaller::print_totals` prints the count and then field after field, as many as the plan's first byte says. Assumes nothing.
use native.Mathlib.Omega.{arith}
use Rattle.listing.proofs.TotalPrinting.{plan_fields, count_printed, field_printed}
use Rattle.totaller.proofs.print_totals.Goals as goal

pub bounds-plan-0 : goal.bounds-plan-0
bounds-plan-0 c = (plan_fields _ _ c.requires.plan).0

pub print_line-whole-requires : goal.print_line-whole-requires
print_line-whole-requires c =
    let e = c.count_line-n.ensures in
    count_printed _ c.requires.course _ _ _ c.requires.room e.answer e.memory

pub print_line-whole-requires-in-loop-i : goal.print_line-whole-requires-in-loop-i
print_line-whole-requires-in-loop-i c =
    let e = c.field_line-n.ensures in
    let f = plan_fields _ _ c.requires.plan in
    field_printed _ c.requires.course _ _ _ (omega arith) _ (omega arith) e.answer e.memory
