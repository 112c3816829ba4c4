-- The sum of the n that headers say, field after field; of a plan it is the record length. Assumes nothing.
use Prim.Native.Nat.{ℕ, zero, suc, ◌+◌, ◌-◌, ◌*◌, ◌<◌, ◌≤◌}
use mathlib.Core.Path.{◌≡◌, refl, sym, ap, ◌∙◌}
use mathlib.Core.List.{List, [], ◌∷◌, ◌++◌}
use native.Mathlib.Nat.{sub-zero}
use native.Mathlib.Omega.{arith}
use lib.ListN.{length, get_or, take, drop, length-take}
use lib.Seq.{drop-drop, get_or-drop, take-add}
use Rattle.rules.specs.Form.{Form}
use Rattle.rules.specs.Layout.{headers, plan_of, positions, record_length}
use Rattle.rules.specs.PlanBytes.{forms_from, forms_in}
use Rattle.rules.proofs.Plans.{length_positions}
use Rattle.rules.proofs.PlanWalk.{PlanParts, count_forms_in, field_count, width_at}
use Rattle.plan.specs.Widths.{widths, widths_at}

module _ (b : List ℕ) where
  pub widths_step : (i : ℕ) → i < field_count b → widths_at b i ≡ width_at b i + widths_at b (i + 1)
  unfolding widths_at widths
  widths_step i l =
      let e : field_count b - i ≡ suc (field_count b - (i + 1)) = omega arith in
      let x : 1 + 3 * i + 0 ≡ 1 + 3 * i = omega arith in
      let w : 1 + 3 * i + 3 ≡ 1 + 3 * (i + 1) = omega arith in
      rw (e, get_or-drop (1 + 3 * i) b 0 0, x, drop-drop 3 (1 + 3 * i) b, w)

-- the n of forms are their sizes
widths_headers : (φs : List Form) (x : List ℕ) → widths (length φs) (headers φs ++ x) ≡ record_length φs
unfolding widths headers record_length
widths_headers [] x = refl
widths_headers (φ ∷ φs) x = rw (widths_headers φs x)

widths_plan : (φs : List Form) → widths (length φs) (drop 1 (plan_of φs)) ≡ record_length φs
unfolding plan_of
widths_plan φs = widths_headers φs _

pub plan_widths : (b : List ℕ) → PlanParts b → widths_at b 0 ≡ record_length (forms_in b)
unfolding widths_at
plan_widths b p =
    let φs = forms_in b in
    rw (sub-zero, ← count_forms_in b) (ap (λ (l : List ℕ). widths (length φs) (drop 1 l)) p.whole ∙ widths_plan φs)

-- The positions that are read off come back.
pub positions_read : (c : ℕ) (h p : List ℕ) → positions (forms_from c h p) ≡ take (widths c h) p
unfolding positions forms_from widths
positions_read zero h p = refl
positions_read (suc c) h p = rw (positions_read c (drop 3 h) (drop (get_or h 0 0) p), take-add (get_or h 0 0) (widths c (drop 3 h)) p)

pub record_read : (c : ℕ) (h p : List ℕ) → widths c h ≤ length p → record_length (forms_from c h p) ≡ widths c h
record_read c h p l =
    let e = length_positions (forms_from c h p) in
    let q = rw (positions_read c h p) at e in
    sym q ∙ simp length-take (omega arith)
