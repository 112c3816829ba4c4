-- A walk over the fields of a plan's bytes: at field i, whose positions start at byte `at`, the forms from there on are read off the headers
-- and positions that are left. Assumes nothing.
use mathlib.Core.Path.{◌≡◌, refl, ap, ◌∙◌}
use mathlib.Core.List.{List, [], ◌∷◌}
use Prim.Native.Nat.{ℕ, zero, suc, ◌+◌, ◌-◌, ◌*◌, ◌<◌, ◌≤◌}
use native.Mathlib.Nat.{sub-zero}
use native.Mathlib.Omega.{arith}
use borrow.Author.Tests.{leb-true}
use mathlib.Core.Bool.{true}
use lib.Dec.{leb}
use lib.ListN.{length, get_or, take, drop}
use lib.Seq.{drop-drop, get_or-drop}
use Rattle.rules.specs.Form.{Form, formed}
use Rattle.rules.specs.Layout.{most_pictures, plan_of, record_length}
use Rattle.rules.specs.PlanBytes.{all_good, forms_from, forms_in, is_plan}
use Rattle.rules.proofs.Lists.{same_eq}
use Rattle.rules.proofs.Logic.{both}
use Rattle.rules.proofs.Plans.{plan_length}

-- how many fields the bytes say they have, and the form of field i whose positions start at byte `at`
abbrev pub field_count : List ℕ → ℕ
field_count b = get_or b 0 0

abbrev pub width_at : List ℕ → ℕ → ℕ
width_at b i = get_or b (1 + 3 * i) 0

abbrev pub form_at : List ℕ → ℕ → ℕ → Form
form_at b i at = formed (take (width_at b i) (drop at b)) (get_or b (2 + 3 * i) 0) (get_or b (3 + 3 * i) 0)

-- the forms from field i on
unfoldable pub forms_at : List ℕ → ℕ → ℕ → List Form
forms_at b i at = forms_from (field_count b - i) (drop (1 + 3 * i) b) (drop at b)

module _ (b : List ℕ) where
  pub walk_start : forms_in b ≡ forms_at b 0 (3 * field_count b + 3)
  unfolding forms_in forms_at
  walk_start = rw sub-zero

  pub walk_step : (i at : ℕ) → i < field_count b → forms_at b i at ≡ form_at b i at ∷ forms_at b (i + 1) (at + width_at b i)
  unfolding forms_at forms_from
  walk_step i at l =
      let e : field_count b - i ≡ suc (field_count b - (i + 1)) = omega arith in
      let x : 1 + 3 * i + 0 ≡ 1 + 3 * i = omega arith in
      let y : 1 + 3 * i + 1 ≡ 2 + 3 * i = omega arith in
      let z : 1 + 3 * i + 2 ≡ 3 + 3 * i = omega arith in
      let w : 1 + 3 * i + 3 ≡ 1 + 3 * (i + 1) = omega arith in
      rw (e, get_or-drop (1 + 3 * i) b 0 0, get_or-drop (1 + 3 * i) b 1 0, get_or-drop (1 + 3 * i) b 2 0, x, y, z, drop-drop 3 (1 + 3 * i) b, w, drop-drop (width_at b i) at b)

  pub walk_end : (i at : ℕ) → field_count b ≤ i → forms_at b i at ≡ []
  unfolding forms_at forms_from
  walk_end i at l = let e : field_count b - i ≡ 0 = omega arith in rw e

pub forms_count : (c : ℕ) (h p : List ℕ) → length (forms_from c h p) ≡ c
unfolding forms_from
forms_count zero h p = refl
forms_count (suc c) h p = ap suc (forms_count c (drop 3 h) (drop (get_or h 0 0) p))

pub count_forms_in : (b : List ℕ) → length (forms_in b) ≡ field_count b
unfolding forms_in
count_forms_in b = forms_count (field_count b) (drop 1 b) (drop (3 * field_count b + 3) b)

-- What bytes that are a plan have, part by part.
pub record PlanParts (b : List ℕ) : Type 0 where
  pub some : 1 ≤ field_count b
  pub few : field_count b ≤ most_pictures
  pub good : all_good (forms_in b) ≡ true
  pub whole : b ≡ plan_of (forms_in b)
  pub size : length b ≡ 3 * field_count b + 3 + record_length (forms_in b)

pub plan_parts : (b : List ℕ) → is_plan b ≡ true → PlanParts b
unfolding is_plan
plan_parts b h =
    let n = count_forms_in b in
    let w = both (leb 1 (length (forms_in b))) _ h in
    let x = both (leb (length (forms_in b)) most_pictures) _ w.1 in
    let y = both (all_good (forms_in b)) _ x.1 in
    let e = same_eq b (plan_of (forms_in b)) y.1 in
    record {
      some = omega (arith, leb-true 1 (length (forms_in b)) w.0);
      few = omega (arith, leb-true (length (forms_in b)) most_pictures x.0);
      good = y.0;
      whole = e;
      size = ap length e ∙ plan_length (forms_in b) ∙ rw n;
    }
