-- The pass that writes: what is left of the record, written behind what has been written, gives the whole
-- record. Assumes nothing.
use mathlib.Core.Path.{◌≡◌, refl, sym, ◌∙◌}
use mathlib.Core.List.{List, [], ◌∷◌, ◌++◌}
use mathlib.Core.Logic.{◌⊎◌, ⊎_elim}
use Prim.Native.Nat.{ℕ, suc, ◌+◌, ◌≤◌}
use native.Mathlib.Omega.{arith}
use lib.IntN.{ℤ, nat_abs}
use lib.ListN.{length, drop, length-append}
use lib.Seq.{length-sets, sets}
use Rattle.rules.specs.Form.{Form, size}
use Rattle.rules.specs.Numbers.{first_of}
use Rattle.rules.specs.Layout.{record_length}
use Rattle.rules.specs.PlanBytes.{forms_in}
use Rattle.rules.specs.Edit.{is_negative}
use Rattle.rules.specs.Answers.{edit_verdicts, field_number, field_of, record_in, record_of, verdicts_in}
use Rattle.rules.proofs.Firsts.{first_zero}
use Rattle.rules.proofs.Lists.{sets_append, sets_front}
use Rattle.rules.proofs.PlanWalk.{count_forms_in}
use Rattle.copying.specs.Copy.{copied}
use Rattle.roles.specs.Table.{characters}
use Rattle.field.specs.Results.{field_by}
use Rattle.planedit.specs.Rows.{Ready}
use Rattle.planedit.proofs.Values.{edited_size, put_is}

pub record_length_lem : (φs : List Form) (row : List ℤ) → length row ≡ length φs → length (record_of φs row) ≡ record_length φs
unfolding record_in record_length
record_length_lem [] row e = refl
record_length_lem (φ ∷ φs) [] e = absurd (omega arith)
record_length_lem (φ ∷ φs) (m ∷ ms) e = simp length-append (omega (arith, edited_size φ m, record_length_lem φs ms (omega arith)))

-- The forms and the values that are left, from which byte on their fields go, and what the whole gives.
pub record Written (left : List Form) (ms : List ℤ) (from : ℕ) (out whole : List ℕ) : Type 0 where
  pub takes : first_of (edit_verdicts left ms) ≡ 0
  pub each : length ms ≡ length left
  pub room : from + record_length left ≤ length out
  pub gives : sets out from (record_of left ms) ≡ whole

-- the record, and behind it what stood there
abbrev pub Whole : List ℕ → List ℤ → List ℕ → List ℕ
Whole b row lent = record_of (forms_in b) row ++ drop (length (record_of (forms_in b) row)) lent

pub written_start : (b : List ℕ) (row : List ℤ) (lent : List ℕ) → Ready b row lent → Written (forms_in b) row 0 lent (Whole b row lent)
written_start b row lent p =
    let each : length row ≡ length (forms_in b) = p.each ∙ sym (count_forms_in b) in
    record {
      takes = p.takes;
      each = each;
      room = omega (arith, p.room);
      gives = sets_front (record_of (forms_in b) row) lent (omega (arith, p.room, record_length_lem (forms_in b) row each));
    }

module _ (from : ℕ) (out whole : List ℕ) where
  -- at the end of the forms or of the row
  pub written_end : (left : List Form) (ms : List ℤ) → Written left ms from out whole → (left ≡ []) ⊎ (length ms ≡ 0) → out ≡ whole
  unfolding record_in
  written_end [] ms w h = w.gives
  written_end (φ ∷ left) [] w h = w.gives
  written_end (φ ∷ left) (m ∷ ms) w h = ⊎_elim (λ (e : φ ∷ left ≡ []). cc) (λ (e : suc (length ms) ≡ 0). absurd (omega arith)) h

  module _ (φ : Form) (left : List Form) (m : ℤ) (ms : List ℤ) (w : Written (φ ∷ left) (m ∷ ms) from out whole) where
    numbers : (field_number φ m ≡ 0) × (first_of (edit_verdicts left ms) ≡ 0)
    unfolding verdicts_in
    numbers = first_zero _ _ w.takes

    -- the field stands within the record
    pub written_within : from + size φ ≤ length out
    unfolding record_length
    written_within = omega (arith, w.room)

    pub written_step : (after : List ℕ) → after ≡ copied (field_by characters φ (is_negative m) (nat_abs m)) from out → Written left ms (from + size φ) after whole
    unfolding record_in record_length
    written_step after a =
        let x = put_is φ m numbers.0 from out after written_within a in
        let k : length after ≡ length out = rw x (length-sets out from (field_of φ m)) in
        let n : from + size φ ≡ from + length (field_of φ m) = rw (edited_size φ m) in
        record {
          takes = numbers.1;
          each = omega (arith, w.each);
          room = omega (arith, w.room, k);
          gives = rw (x, n) (sym (sets_append (field_of φ m) (record_of left ms) out from) ∙ w.gives);
        }
