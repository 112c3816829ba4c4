-- What the calls with runs are asked determines the answer and the run: two outcomes that meet a contract are
-- equal. By the exactness of reading and a plan's having one list of forms, as for the calls below. Assumes
-- nothing.
use Prim.Native.Nat.{ℕ, zero, suc}
use mathlib.Core.Path.{◌≡◌, refl, sym, ap, ◌∙◌}
use mathlib.Core.Bool.{true}
use mathlib.Core.List.{List}
use mathlib.Core.Option.{Option}
use lib.IntN.{ℤ, pos}
use lib.ListN.{length}
use Rattle.rules.specs.Numbers.{ROOM, first_of}
use Rattle.rules.specs.Form.{Form, meaning}
use Rattle.rules.specs.Shape.{verdict}
use Rattle.rules.specs.Answers.{amounts, answer, lent_after, said, unsaid, number_over, read_before, record_answer}
use Rattle.rules.specs.PlanBytes.{all_good}
use Rattle.rules.specs.Collector.{packed, row_bytes, bytes_of, read_run_number, ReadRunIs}
use Rattle.rules.proofs.Exact.{reads_one}
use Rattle.rules.proofs.Forms.{accepted_good, good_parts}
use Rattle.rules.proofs.Outcomes.{one_outcome, record_reads_one, same_pair}
use Rattle.totals.specs.Totals.{Added}
use Rattle.totals.proofs.Past.{batch_added_one}
use Rattle.collector.specs.PlanRuns.{places_in, RecordRunIs, PlanReadRunIs, PlanEditRunIs}
use Rattle.collector.specs.TotalRuns.{PlaceRunIs, TotalsAddRunIs, sheet_fits, sheet_in, written_at}

record_run_one : (rec run : List ℕ) (φs : List Form) → all_good φs ≡ true → (r s : ℕ) (x y : List ℕ) → RecordRunIs φs rec run r x → RecordRunIs φs rec run s y → (r ≡ s) × (x ≡ y)
record_run_one rec run φs h r s x y a b =
    let e = record_reads_one φs rec h a.says b.says a.reads b.reads in (
      a.gives ∙ ap (λ (os : List (Option ℤ)). packed (record_answer φs rec (places_in run) os)) e ∙ sym b.gives,
      a.leaves ∙ ap (λ (os : List (Option ℤ)). lent_after (number_over (read_before φs rec (places_in run)) (unsaid os) 0) (row_bytes (amounts os)) run) e ∙ sym b.leaves,
    )

pub plan_read_run_one : (b rec run : List ℕ) (r s : ℕ) (x y : List ℕ) → PlanReadRunIs b rec run r x → PlanReadRunIs b rec run s y → (r ≡ s) × (x ≡ y)
plan_read_run_one b rec run r s x y = one_outcome b same_pair (λ φs h. record_run_one rec run φs h r s x y)

pub plan_edit_run_one : (b run out : List ℕ) (r s : ℕ) (x y : List ℕ) → PlanEditRunIs b run out r x → PlanEditRunIs b run out s y → (r ≡ s) × (x ≡ y)
plan_edit_run_one b run out r s x y = one_outcome b same_pair (λ φs h p q. same_pair (p.gives, p.leaves) (q.gives, q.leaves))

-- Adding to a sheet: what an addition gives is one.
place_run_one : (batch : List ℕ) (at : ℕ) (run : List ℕ) (φs : List Form) → all_good φs ≡ true → (r s : ℕ) (x y : List ℕ) → PlaceRunIs φs batch at run r x → PlaceRunIs φs batch at run s y
    → (r ≡ s) × (x ≡ y)
place_run_one batch at run φs h r s x y a b =
    let e = batch_added_one φs batch at (sheet_in run) a.added b.added h a.adds b.adds in (
      a.gives ∙ ap (λ (t : Added). packed (sheet_fits run t.answer (answer ROOM 0 0 (pos 0)))) e ∙ sym b.gives,
      a.leaves ∙ ap (λ (t : Added). sheet_fits run (lent_after t.answer.number (written_at batch at t.sheet) run) run) e ∙ sym b.leaves,
    )

pub totals_add_run_one : (b batch : List ℕ) (at : ℕ) (run : List ℕ) (r s : ℕ) (x y : List ℕ) → TotalsAddRunIs b batch at run r x → TotalsAddRunIs b batch at run s y → (r ≡ s) × (x ≡ y)
totals_add_run_one b batch at run r s x y = one_outcome b same_pair (λ φs h. place_run_one batch at run φs h r s x y)

-- By a picture: a refused text leaves no say to what the field says.
abbrev ReadAnswer : List ℕ → List ℕ → List ℕ → Option ℤ → ℕ
ReadAnswer t f run o = packed (answer (read_run_number t f (length run) o) 0 1 (said o))

abbrev ReadRun : List ℕ → List ℕ → List ℕ → Option ℤ → List ℕ
ReadRun t f run o = lent_after (read_run_number t f (length run) o) (bytes_of (said o)) run

same_refusal : (t f run : List ℕ) (o p : Option ℤ) (v : ℕ) → verdict t ≡ suc v → (ReadAnswer t f run o ≡ ReadAnswer t f run p) × (ReadRun t f run o ≡ ReadRun t f run p)
unfolding read_run_number first_of
same_refusal t f run o p v e = (rw e, rw e)

pub read_run_one : (t f run : List ℕ) (r s : ℕ) (x y : List ℕ) → ReadRunIs t f run r x → ReadRunIs t f run s y → (r ≡ s) × (x ≡ y)
read_run_one t f run r s x y a b =
    let w = at (verdict t) refl in (a.gives ∙ w.0 ∙ sym b.gives, a.leaves ∙ w.1 ∙ sym b.leaves)
  where
    at : (v : ℕ) → verdict t ≡ v → (ReadAnswer t f run a.says ≡ ReadAnswer t f run b.says) × (ReadRun t f run a.says ≡ ReadRun t f run b.says)
    at zero e =
        let o = reads_one (meaning t) (good_parts (meaning t) (accepted_good t e)) f a.says b.says (a.reads e) (b.reads e) in
        (ap (ReadAnswer t f run) o, ap (ReadRun t f run) o)
    at (suc v) e = same_refusal t f run a.says b.says v e
