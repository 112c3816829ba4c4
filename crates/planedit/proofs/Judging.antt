-- The pass that looks for the first bad field: what is left of the row, counted on from the present field,
-- gives what the whole gives. Assumes nothing.
use mathlib.Core.Path.{◌≡◌, refl, sym, ◌∙◌}
use mathlib.Core.Bool.{true}
use mathlib.Core.List.{List, [], ◌∷◌}
use mathlib.Core.Logic.{◌⊎◌, ⊎_elim}
use Prim.Native.Nat.{ℕ, zero, suc, ◌+◌, ◌≤◌}
use native.Mathlib.Omega.{arith}
use lib.IntN.{ℤ}
use lib.ListN.{length}
use Rattle.rules.specs.Form.{Form}
use Rattle.rules.specs.Good.{good}
use Rattle.rules.specs.Layout.{most_pictures}
use Rattle.rules.specs.Numbers.{bad_field, first_of, later}
use Rattle.rules.specs.PlanBytes.{all_good, forms_in, is_plan}
use Rattle.rules.specs.Answers.{edit_verdicts, field_number, verdicts_in}
use Rattle.rules.specs.Powers.{powers}
use Rattle.rules.proofs.Logic.{both}
use Rattle.rules.proofs.PlanWalk.{count_forms_in, field_count, plan_parts}
use Rattle.value.specs.Settling.{own_number}
use Rattle.planedit.specs.Rows.{Bad, bad, bad_of}
use Rattle.planedit.proofs.Values.{number_is}

-- the first bad field, by the number that each field gets, the fields counted on from i
unfoldable pub bad_from : ℕ → List ℕ → Bad
bad_from i [] = bad 0 0
bad_from i (zero ∷ ns) = bad_from (i + 1) ns
bad_from i (suc n ∷ ns) = bad (suc n) (i + 1)

abbrev onward : ℕ → ℕ → ℕ
onward i zero = 0
onward i (suc k) = i + suc k

onward_later : (i k : ℕ) → onward (i + 1) k ≡ onward i (later k)
onward_later i zero = refl
onward_later i (suc k) = omega arith

onward_start : (k : ℕ) → onward 0 k ≡ k
onward_start zero = refl
onward_start (suc k) = omega arith

bad_from_lem : (i : ℕ) (ns : List ℕ) → bad_from i ns ≡ bad (first_of ns) (onward i (bad_field ns))
unfolding bad_from first_of bad_field
bad_from_lem i [] = refl
bad_from_lem i (zero ∷ ns) = bad_from_lem (i + 1) ns ∙ rw (onward_later i (bad_field ns))
bad_from_lem i (suc n ∷ ns) = refl

bad_is : (ns : List ℕ) → bad_from 0 ns ≡ bad_of ns
unfolding bad_of
bad_is ns = bad_from_lem 0 ns ∙ rw (onward_start (bad_field ns))

bad_here : (i n : ℕ) (ns : List ℕ) → (n ≡ 0 → ⊥) → bad_from i (n ∷ ns) ≡ bad n (i + 1)
unfolding bad_from
bad_here i zero ns h = absurd (h refl)
bad_here i (suc n) ns h = refl

bad_next : (i n : ℕ) (ns : List ℕ) → n ≡ 0 → bad_from i (n ∷ ns) ≡ bad_from (i + 1) ns
unfolding bad_from
bad_next i n ns h = rw h

-- Before field i: the forms and the values that are left, and what the whole gives.
pub record Judged (left : List Form) (ms : List ℤ) (i : ℕ) (whole : Bad) : Type 0 where
  pub fine : all_good left ≡ true
  pub few : i + length left ≤ most_pictures
  pub each : length ms ≡ length left
  pub gives : bad_from i (edit_verdicts left ms) ≡ whole

pub judged_start : (b : List ℕ) (row : List ℤ) → is_plan b ≡ true → length row ≡ field_count b → Judged (forms_in b) row 0 (bad_of (edit_verdicts (forms_in b) row))
judged_start b row h e =
    let p = plan_parts b h in
    record {
      fine = p.good;
      few = omega (arith, p.few, count_forms_in b);
      each = e ∙ sym (count_forms_in b);
      gives = bad_is (edit_verdicts (forms_in b) row);
    }

module _ (i : ℕ) (whole : Bad) where
  -- at the end of the forms or of the row
  pub judged_end : (left : List Form) (ms : List ℤ) → Judged left ms i whole → (left ≡ []) ⊎ (length ms ≡ 0) → bad 0 0 ≡ whole
  unfolding verdicts_in bad_from
  judged_end [] ms j h = j.gives
  judged_end (φ ∷ left) [] j h = j.gives
  judged_end (φ ∷ left) (m ∷ ms) j h = ⊎_elim (λ (e : φ ∷ left ≡ []). cc) (λ (e : suc (length ms) ≡ 0). absurd (omega arith)) h

  module _ (φ : Form) (left : List Form) (m : ℤ) (ms : List ℤ) (j : Judged (φ ∷ left) (m ∷ ms) i whole) (n : ℕ) (e : n ≡ own_number powers φ m) where
    fine_both : (good φ ≡ true) × (all_good left ≡ true)
    unfolding all_good
    fine_both = both (good φ) (all_good left) j.fine

    number : n ≡ field_number φ m
    number = e ∙ number_is φ m fine_both.0

    all : bad_from i (n ∷ edit_verdicts left ms) ≡ whole
    unfolding verdicts_in
    all = rw number j.gives

    pub judged_bad : (n ≡ 0 → ⊥) → bad n (i + 1) ≡ whole
    judged_bad h = sym (bad_here i n _ h) ∙ all

    pub judged_step : n ≡ 0 → Judged left ms (i + 1) whole
    judged_step h = record { fine = fine_both.1; few = omega (arith, j.few); each = omega (arith, j.each); gives = sym (bad_next i n _ h) ∙ all }
