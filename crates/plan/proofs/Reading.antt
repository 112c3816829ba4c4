-- The forms that headers and positions still give, one at a time; those of a plan's bytes are the forms in
-- it. Assumes nothing.
use Prim.Native.Nat.{ℕ, zero, suc, ◌+◌, ◌-◌, ◌*◌, ◌<◌, ◌≤◌}
use mathlib.Core.Path.{◌≡◌, refl}
use mathlib.Core.List.{List, [], ◌∷◌}
use mathlib.Core.Bool.{true, false, ◌&&◌}
use native.Mathlib.Nat.{sub-zero}
use native.Mathlib.Omega.{arith}
use borrow.Author.Tests.{eq-eqb, le-leb, leb-false, leb-true, lt-leb, ne_eqb}
use lib.Dec.{eqb, leb}
use lib.Seq.{take_all}
use lib.ListN.{length, get_or, take, drop, length-take, length-drop}
use Rattle.rules.specs.Form.{formed}
use Rattle.rules.specs.Layout.{record_length}
use Rattle.rules.specs.PlanBytes.{all_good, forms_from, forms_in, is_plan}
use Rattle.rules.proofs.Logic.{by_test}
use Rattle.rules.proofs.PlanWalk.{PlanParts, field_count, forms_count, plan_parts}
use Rattle.plan.specs.Widths.{widths, widths_at}
use Rattle.plan.specs.Walk.{all_read, forms_read}
use Rattle.plan.proofs.Sums.{plan_widths, record_read}

pub read_none : (h p : List ℕ) → length h < 3 → forms_read h p ≡ []
unfolding forms_read
read_none [] p l = refl
read_none (x ∷ []) p l = refl
read_none (x ∷ y ∷ []) p l = refl
read_none (x ∷ y ∷ z ∷ h) p l = absurd (omega arith)

pub read_past : (h p : List ℕ) → length p < get_or h 0 0 → forms_read h p ≡ []
unfolding forms_read
read_past [] p l = refl
read_past (x ∷ []) p l = refl
read_past (x ∷ y ∷ []) p l = refl
read_past (x ∷ y ∷ z ∷ h) p l = rw (lt-leb x (length p) l)

pub read_step : (h p : List ℕ) → 3 ≤ length h → get_or h 0 0 ≤ length p
    → forms_read h p ≡ formed (take (get_or h 0 0) p) (get_or h 1 0) (get_or h 2 0) ∷ forms_read (drop 3 h) (drop (get_or h 0 0) p)
unfolding forms_read
read_step [] p k l = absurd (omega arith)
read_step (x ∷ []) p k l = absurd (omega arith)
read_step (x ∷ y ∷ []) p k l = absurd (omega arith)
read_step (x ∷ y ∷ z ∷ h) p k l = rw (le-leb x (length p) l)

-- the same of the parts that the code takes
pub read_parts : (h p roles rest : List ℕ) → 3 ≤ length h → get_or h 0 0 ≤ length p → roles ≡ take (get_or h 0 0) p → rest ≡ drop (get_or h 0 0) p
    → forms_read h p ≡ formed roles (get_or h 1 0) (get_or h 2 0) ∷ forms_read (take (length h - 3) (drop 3 h)) rest
read_parts h p roles rest k l e f =
    let n : length (drop 3 h) ≤ length h - 3 = simp length-drop (omega arith) in
    rw (e, f, take_all (length h - 3) (drop 3 h) n) (read_step h p k l)

read_from : (c : ℕ) (h p : List ℕ) → 3 * c ≤ length h → widths c h ≤ length p → forms_read (take (3 * c) h) p ≡ forms_from c h p
unfolding forms_read forms_from widths
read_from zero h p k l = refl
read_from (suc c) [] p k l = absurd (omega arith)
read_from (suc c) (x ∷ []) p k l = absurd (omega arith)
read_from (suc c) (x ∷ y ∷ []) p k l = absurd (omega arith)
read_from (suc c) (x ∷ y ∷ z ∷ h) p k l =
    let e : 3 * suc c ≡ suc (suc (suc (3 * c))) = omega arith in
    let i = read_from c h (drop x p) (omega arith) (simp length-drop (omega arith)) in
    rw (e, le-leb x (length p) (omega arith), i)

read_plan : (b : List ℕ) → PlanParts b → forms_read (take (3 * field_count b) (drop 1 b)) (drop (3 * field_count b + 3) b) ≡ forms_in b
unfolding forms_in widths_at
read_plan b p =
    let n : widths_at b 0 ≡ widths (field_count b) (drop 1 b) = rw sub-zero in
    read_from (field_count b) (drop 1 b) (drop (3 * field_count b + 3) b) (simp length-drop (omega (arith, p.size)))
    (simp length-drop (omega (arith, p.size, plan_widths b p, n)))

-- of a plan, by the slices that the code takes
pub read_slices : (b : List ℕ) (c : ℕ) → c ≡ field_count b → is_plan b ≡ true
    → forms_read (take (3 * c + 1 - 1) (drop 1 b)) (take (length b - (3 * c + 3)) (drop (3 * c + 3) b)) ≡ forms_in b
read_slices b c e h =
    let x : 3 * field_count b + 1 - 1 ≡ 3 * field_count b = omega arith in
    let n : length (drop (3 * field_count b + 3) b) ≤ length b - (3 * field_count b + 3) = simp length-drop (omega arith) in
    rw (e, x, take_all (length b - (3 * field_count b + 3)) (drop (3 * field_count b + 3) b) n) (read_plan b (plan_parts b h))

-- The forms that are read are no more than the headers, and take no more than the positions.
pub few_read : (h p : List ℕ) → 3 * length (forms_read h p) ≤ length h
unfolding forms_read
few_read [] p = omega arith
few_read (x ∷ []) p = omega arith
few_read (x ∷ y ∷ []) p = omega arith
few_read (x ∷ y ∷ z ∷ h) p =
    by_test (leb x (length p)) (λ e. rw e (omega (arith, few_read h (drop x p)))) (λ e. rw e (omega arith))

pub within_read : (h p : List ℕ) → record_length (forms_read h p) ≤ length p
unfolding forms_read record_length
within_read [] p = omega arith
within_read (x ∷ []) p = omega arith
within_read (x ∷ y ∷ []) p = omega arith
within_read (x ∷ y ∷ z ∷ h) p =
    by_test (leb x (length p))
    (λ e.
    let l = leb-true x (length p) e in
    let n : length (take x p) ≡ x = simp length-take (omega arith) in
    let m : length (drop x p) ≡ length p - x = length-drop x p in
    rw (e, n) (omega (arith, within_read h (drop x p))))
    (λ e. rw e (omega arith))

-- There is one for each header only where the positions are as many as the headers say.
widths_read : (c : ℕ) (h p : List ℕ) → 3 * c ≤ length h → length (forms_read (take (3 * c) h) p) ≡ c → widths c h ≤ length p
unfolding forms_read widths
widths_read zero h p n e = omega arith
widths_read (suc c) [] p n e = absurd (omega arith)
widths_read (suc c) (x ∷ []) p n e = absurd (omega arith)
widths_read (suc c) (x ∷ y ∷ []) p n e = absurd (omega arith)
widths_read (suc c) (x ∷ y ∷ z ∷ h) p n e =
    let k : 3 * suc c ≡ suc (suc (suc (3 * c))) = omega arith in
    by_test (leb x (length p))
    (λ t.
    let l = leb-true x (length p) t in
    let q : suc (length (forms_read (take (3 * c) h) (drop x p))) ≡ suc c = rw (k, t) at e in
    let m : length (drop x p) ≡ length p - x = length-drop x p in
    omega (arith, widths_read c h (drop x p) (omega arith) (omega arith), m))
    (λ t. let q : 0 ≡ suc c = rw (k, t) at e in absurd (omega arith))

-- What the loop finds is what the headers' sum and the forms that are read off with no check say.
pub all_read_is : (c : ℕ) (h p : List ℕ) → 3 * c ≤ length h → all_read (take (3 * c) h) p ≡ (eqb (widths c h) (length p) && all_good (forms_from c h p))
unfolding all_read
all_read_is c h p n =
    let d : length (take (3 * c) h) ≡ 3 * c = simp length-take (omega arith) in
    by_test (leb (widths c h) (length p))
    (λ t.
    let l = leb-true (widths c h) (length p) t in
    rw (read_from c h p n l, forms_count c h p, record_read c h p l, d, eq-eqb (3 * c) (3 * c) refl))
    (λ t.
    let l = leb-false (widths c h) (length p) t in
    let k : eqb (3 * length (forms_read (take (3 * c) h) p)) (length (take (3 * c) h)) ≡ false =
    ne_eqb (3 * length (forms_read (take (3 * c) h) p)) (length (take (3 * c) h)) (λ e. omega (arith, widths_read c h p n (omega (arith, d)))) in
    let m : eqb (widths c h) (length p) ≡ false = ne_eqb (widths c h) (length p) (λ e. omega arith) in
    rw (k, m))
