-- `collector::sheets::morvenka_totals_add` meets its contract: each way through it is a law of TotalCalls.
-- Assumes nothing.
use mathlib.Core.Path.{◌≡◌, ap, ◌∙◌}
use native.Mathlib.Omega.{arith}
use borrow.Author.Rules.{rules}
use lib.ListN.{length}
use Rattle.std.specs.Prelude.{Err, unwrap_or}
use Rattle.rules.specs.declared.Refusal.TheVariants.{Room}
use Rattle.rules.specs.Refusals.{fields_answer}
use Rattle.rules.specs.Collector.{packed}
use Rattle.totals.specs.Totals.{AddIs, added_in}
use Rattle.collector.specs.TotalRuns.{sheet_in}
use Rattle.collector.proofs.TotalCalls.{count_few, length_few, run_grows, run_stays, short_run}
use Rattle.collector.proofs.sheets.morvenka_totals_add.Goals as goal
use Rattle.collector.proofs.sheets.morvenka_totals_add.Goals.{then-answer-gt0, else-answer-gt0}

pub returns-then-sheet-lt-SHEET_SIZE : goal.returns-then-sheet-lt-SHEET_SIZE
returns-then-sheet-lt-SHEET_SIZE c =
    short_run _ _ _ _ c.if-sheet-lt-SHEET_SIZE.true c.new.result c.new.ensures.number _ (c.unwrap_or-refusal.ensures ∙ ap (λ o. unwrap_or o Room) c.err.ensures.value) _
    (c.pack.ensures ∙ ap packed (c.of_fields.ensures ∙ ap (λ e. fields_answer (Err e)) c.into.ensures))

pub put_sheet-requires : goal.put_sheet-requires
put_sheet-requires c =
    let adds : AddIs c.args.plan.now c.args.batch.now c.args.place (sheet_in c.args.sheet.now) (added_in c.add-added.result) =
    rw c.get_sheet.ensures at c.add-added.ensures in
    let long = rw c.of_fields-answer.ensures at c.if-answer-gt0.true in
    (c.if-sheet-lt-SHEET_SIZE.false, count_few _ _ _ _ _ adds (λ z. omega (arith, long, z)))

pub pack-requires-2 : goal.pack-requires-2
pack-requires-2 c =
    let adds : AddIs c.args.plan.now c.args.batch.now c.args.place (sheet_in c.args.sheet.now) (added_in c.add-added.result) =
    rw c.get_sheet.ensures at c.add-added.ensures in
    rw c.of_fields-answer.ensures (length_few _ _ _ _ _ adds)

pub returns : goal.returns
returns c =
    let adds : AddIs c.args.plan.now c.args.batch.now c.args.place (sheet_in c.args.sheet.now) (added_in c.add-added.result) =
    rw c.get_sheet.ensures at c.add-added.ensures in
    let sheet = c.add-added.result.sheet in
    let places : ((length sheet.sums ≡ 32) × (length sheet.least ≡ 32) × (length sheet.greatest ≡ 32)) =
    (search rules, search rules, search rules) in
    let packs = c.pack-2.ensures ∙ ap packed c.of_fields-answer.ensures in
    elim c.if-answer-gt0.branch [
      | then-answer-gt0 w ↦
          let long = rw c.of_fields-answer.ensures at w.if-answer-gt0.true in
          run_grows _ _ _ _ _ c.if-sheet-lt-SHEET_SIZE.false _ packs adds (λ z. omega (arith, long, z)) places.0 places.1 places.2 _ (w.sheet-is ∙ w.put_sheet.ensures.memory)
      | else-answer-gt0 w ↦
          let long = rw c.of_fields-answer.ensures at w.if-answer-gt0.false in
          rw w.sheet-is (run_stays _ _ _ _ _ c.if-sheet-lt-SHEET_SIZE.false _ packs adds (omega (arith, long)))
    ]
