-- A record that stands alone: one of its own length is a batch of one record, and one of another length is
-- refused. So additions of both kinds make one history. Assumes nothing.
use Prim.Native.Nat.{ℕ, suc, ◌*◌, ◌%◌, ◌≤◌}
use mathlib.Core.Path.{◌≡◌, ◌∙◌, ap}
use mathlib.Core.Bool.{true}
use mathlib.Core.List.{List}
use native.Mathlib.Nat.{mul-mod_left}
use native.Mathlib.Omega.{arith}
use borrow.Author.Tests.{eq-eqb, ne_eqb}
use lib.Dec.{eqb, leb}
use lib.ListN.{length}
use lib.Seq.{take_all}
use Rattle.rules.specs.Numbers.{first_of}
use Rattle.rules.specs.Form.{Form}
use Rattle.rules.specs.Layout.{record_length}
use Rattle.rules.specs.Answers.{answer_over, number_over}
use Rattle.rules.specs.PlanBytes.{all_good}
use Rattle.rules.proofs.Logic.{by_test}
use Rattle.rules.proofs.Plans.{record_le}
use Rattle.totals.specs.declared.Sheet.{Sheet}
use Rattle.totals.specs.Batch.{placed}
use Rattle.totals.specs.Totals.{Added, BatchAddedIs, RecordAddedIs, add_before, added_by, batch_added, most_records, record_added}
use Rattle.totals.proofs.Places.{some_record, well_placed}

module _ (φs : List Form) (rec : List ℕ) (s : Sheet) (r : Added) (g : all_good φs ≡ true) (some : 1 ≤ length φs) (few : length φs ≤ 32) where
  abbrev n : ℕ
  n = record_length φs

  pub as_batch : RecordAddedIs φs rec s r → length rec ≡ n → BatchAddedIs φs rec 0 s r
  unfolding batch_added record_added
  as_batch a e =
      let o = some_record φs some g in
      let p : placed n (length rec) 0 ≡ true =
      well_placed n (length rec) 0 (record { short = omega (arith, record_le φs g); whole = rw e (own n); inside = omega arith; start = none_left n }) in
      record {
        says = a.says;
        reads = rw (take_all n rec (omega arith)) a.reads;
        gives = a.gives ∙ rw (ne_eqb 0 (length rec) (λ z. omega arith), p, eq-eqb (length rec) n e);
      }
    where
      own : (m : ℕ) → m % m ≡ 0
      own m = let x : 1 * m ≡ m = omega arith in rw x at (mul-mod_left 1 m)

      none_left : (m : ℕ) → 0 % m ≡ 0
      none_left m = let x : 0 * m ≡ 0 = omega arith in rw x at (mul-mod_left 0 m)

  -- what is refused before the fields leaves the sheet
  refused_before : RecordAddedIs φs rec s r → (k : ℕ) → add_before s (eqb (length rec) n) ≡ suc k → (r.answer.number ≡ 0 → ⊥) × (r.sheet ≡ s)
  unfolding record_added added_by answer_over number_over first_of
  refused_before a k h =
      let x : r.answer.number ≡ suc k = ap (λ (y : Added). y.answer.number) a.gives ∙ rw h in
      (λ z. omega arith, ap (λ (y : Added). y.sheet) a.gives ∙ rw h)

  pub other_length : RecordAddedIs φs rec s r → (length rec ≡ n → ⊥) → (r.answer.number ≡ 0 → ⊥) × (r.sheet ≡ s)
  unfolding add_before first_of
  other_length a e =
      by_test (leb most_records s.count) (λ f. refused_before a 13 (rw f)) (λ f. refused_before a 8 (rw (f, ne_eqb (length rec) n e)))
