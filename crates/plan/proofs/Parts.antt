-- The parts of a plan's bytes, field after field, for whoever walks over them: at field i, whose positions
-- start at byte `at`, the field's part is whole and its form good, and behind it the walk goes on. Assumes
-- nothing.
use Prim.Native.Nat.{ℕ, ◌+◌, ◌-◌, ◌*◌, ◌<◌, ◌≤◌}
use mathlib.Core.Path.{◌≡◌, sym, ap, ◌∙◌}
use mathlib.Core.Bool.{true}
use mathlib.Core.List.{List}
use native.Mathlib.Omega.{arith}
use lib.ListN.{length, get_or, take, drop, length-take, length-drop}
use lib.Seq.{drop-drop}
use Rattle.rules.specs.Form.{Form, formed}
use Rattle.rules.specs.Layout.{record_length}
use Rattle.rules.specs.Good.{good}
use Rattle.rules.specs.PlanBytes.{all_good, forms_in}
use Rattle.rules.proofs.Logic.{both}
use Rattle.rules.proofs.PlanWalk.{PlanParts, field_count, width_at, form_at, forms_at, walk_start, walk_step}
use Rattle.plan.specs.Widths.{widths_at}
use Rattle.plan.proofs.Sums.{plan_widths, widths_step}

-- a part that stands within the bytes is as long as its n
pub part_length : (b : List ℕ) (at n : ℕ) → at + n ≤ length b → length (take n (drop at b)) ≡ n
part_length b at n h = simp (length-take, length-drop) (omega arith)

-- what stands from `at` to the field's end, with its header, is the field's form
pub part_form : (b : List ℕ) (i at : ℕ) → formed (take (at + width_at b i - at) (drop at b)) (get_or b (2 + 3 * i) 0) (get_or b (3 + 3 * i) 0) ≡ form_at b i at
part_form b i at = let e : at + width_at b i - at ≡ width_at b i = omega arith in rw e

pub record Walking (b : List ℕ) (i at : ℕ) : Type 0 where
  -- the fields that are left
  pub rest : drop i (forms_in b) ≡ forms_at b i at
  pub room : at + record_length (forms_at b i at) ≡ length b
  pub fine : all_good (forms_at b i at) ≡ true
  -- the n that are left fill the bytes
  pub span : at + widths_at b i ≡ length b

pub walking_start : (b : List ℕ) → PlanParts b → Walking b 0 (3 * field_count b + 3)
walking_start b p =
    let e = walk_start b in
    record {
      rest = e;
      room = rw (← e) (sym p.size);
      fine = rw (← e) p.good;
      span = omega (arith, plan_widths b p, p.size);
    }

module _ (b : List ℕ) (i at : ℕ) (w : Walking b i at) (l : i < field_count b) where
  pub walking_within : at + width_at b i ≤ length b
  walking_within = omega (arith, widths_step b i l, w.span)

  pub walking_length : length (take (width_at b i) (drop at b)) ≡ width_at b i
  walking_length = part_length b at (width_at b i) walking_within

  fine_both : (good (form_at b i at) ≡ true) × (all_good (forms_at b (i + 1) (at + width_at b i)) ≡ true)
  unfolding all_good
  fine_both = both (good (form_at b i at)) _ (rw (walk_step b i at l) at w.fine)

  pub walking_good : good (form_at b i at) ≡ true
  walking_good = fine_both.0

  pub walking_step : Walking b (i + 1) (at + width_at b i)
  unfolding record_length
  walking_step =
      let e = walk_step b i at l in
      record {
        rest = sym (drop-drop 1 i (forms_in b)) ∙ ap (λ (φs : List Form). drop 1 φs) (w.rest ∙ e);
        room = omega (arith, walking_length, rw e at w.room);
        fine = fine_both.1;
        span = omega (arith, widths_step b i l, w.span);
      }
