-- Bytes whose counts and lengths agree are given again by the forms read off them, so they are a plan where
-- these forms are good; and a plan's counts and lengths agree. Assumes nothing.
use Prim.Native.Nat.{ℕ, zero, suc, ◌+◌, ◌-◌, ◌*◌, ◌/◌, ◌%◌, ◌<◌, ◌≤◌}
use mathlib.Core.Logic.{◌⊎◌, inl, inr}
use mathlib.Core.Path.{◌≡◌, refl, sym, ap, ◌∙◌}
use mathlib.Core.Bool.{Bool, false, ◌&&◌, and-true}
use mathlib.Core.List.{List, [], ◌∷◌, ◌++◌}
use native.Mathlib.Nat.{sub-zero, mod-lt, div-add-mod'}
use native.Mathlib.Omega.{arith}
use borrow.Author.Tests.{eqb-true, eqb-false, le-leb}
use lib.Dec.{eqb}
use lib.ListN.{length, get_or, take, drop, length-take, length-drop, take-append-drop}
use lib.Seq.{drop-cons, drop-drop, get_or-append-add, get_or-drop, take_all}
use Rattle.rules.specs.Form.{Form}
use Rattle.rules.specs.Layout.{headers, most_pictures, plan_of, positions, record_length}
use Rattle.rules.specs.PlanBytes.{all_good, forms_from, forms_in, is_plan}
use Rattle.rules.proofs.Lists.{eq_same}
use Rattle.rules.proofs.Logic.{by_test}
use Rattle.rules.proofs.Plans.{length_headers}
use Rattle.rules.proofs.PlanWalk.{PlanParts, count_forms_in, field_count, forms_count, plan_parts}
use Rattle.plan.specs.Walk.{all_read}
use Rattle.plan.specs.Widths.{widths, widths_at}
use Rattle.plan.proofs.Reading.{all_read_is}
use Rattle.plan.proofs.Sums.{plan_widths, positions_read, record_read}

-- The headers that are read off come back where each part is as long as its n.
headers_read : (c : ℕ) (h p : List ℕ) → 3 * c ≤ length h → widths c h ≤ length p → headers (forms_from c h p) ≡ take (3 * c) h
unfolding headers forms_from widths
headers_read zero h p k l = refl
headers_read (suc c) [] p k l = absurd (omega arith)
headers_read (suc c) (x ∷ []) p k l = absurd (omega arith)
headers_read (suc c) (x ∷ y ∷ []) p k l = absurd (omega arith)
headers_read (suc c) (x ∷ y ∷ z ∷ h) p k l =
    let e : 3 * suc c ≡ suc (suc (suc (3 * c))) = omega arith in
    let n : length (take x p) ≡ x = simp length-take (omega arith) in
    let i = headers_read c h (drop x p) (omega arith) (simp length-drop (omega arith)) in
    rw (e, n, i)

-- the two bytes of the count and what follows them
module _ (b : List ℕ) (c : ℕ) (l : 3 * c + 3 ≤ length b) where
  behind : drop (3 * c) (drop 1 b) ≡ get_or b (3 * c + 1) 0 ∷ get_or b (3 * c + 1 + 1) 0 ∷ drop (3 * c + 3) b
  behind =
      let x : 1 + 3 * c ≡ 3 * c + 1 = omega arith in
      let y : suc (3 * c + 1) ≡ 3 * c + 1 + 1 = omega arith in
      let z : suc (3 * c + 1 + 1) ≡ 3 * c + 3 = omega arith in
      let p : 3 * c + 1 < length b = omega arith in
      let q : 3 * c + 1 + 1 < length b = omega arith in
      let d = rw y at (drop-cons b (3 * c + 1) 0 p) in
      let e = rw z at (drop-cons b (3 * c + 1 + 1) 0 q) in
      drop-drop (3 * c) 1 b ∙ rw (x, d, e)

  cut_up : b ≡ get_or b 0 0 ∷ take (3 * c) (drop 1 b) ++ (get_or b (3 * c + 1) 0 ∷ get_or b (3 * c + 1 + 1) 0 ∷ drop (3 * c + 3) b)
  cut_up =
      let p : 0 < length b = omega arith in
      drop-cons b 0 0 p ∙ ap (λ (t : List ℕ). get_or b 0 0 ∷ t) (sym (take-append-drop (3 * c) (drop 1 b)) ∙ rw behind)

-- n stands in the two bytes at `at`, high byte first
record TwoBytes (b : List ℕ) (at n : ℕ) : Type 0 where
  number : n ≡ get_or b at 0 * 256 + get_or b (at + 1) 0
  low : get_or b (at + 1) 0 < 256

-- the high byte and the low byte of a number
high : (b : List ℕ) (at n : ℕ) → TwoBytes b at n → n / 256 ≡ get_or b at 0
high b at n t = let k : n % 256 < 256 = mod-lt n (omega arith) in omega (arith, div-add-mod' n 256, t.number, t.low)

low : (b : List ℕ) (at n : ℕ) → TwoBytes b at n → n % 256 ≡ get_or b (at + 1) 0
low b at n t = let k : n % 256 < 256 = mod-lt n (omega arith) in omega (arith, div-add-mod' n 256, t.number, t.low)

-- the counts and lengths of bytes agree
record Agrees (b : List ℕ) : Type 0 where
  size : length b ≡ 3 * field_count b + 3 + widths_at b 0
  counted : TwoBytes b (3 * field_count b + 1) (widths_at b 0)

gives_again : (b : List ℕ) → Agrees b → b ≡ plan_of (forms_in b)
unfolding forms_in plan_of widths_at
gives_again b a =
    let c = field_count b in
    let h = drop 1 b in
    let p = drop (3 * c + 3) b in
    let n : widths_at b 0 ≡ widths c h = rw sub-zero in
    let m : length p ≡ widths c h = simp length-drop (omega (arith, a.size)) in
    let r : record_length (forms_from c h p) ≡ widths c h = record_read c h p (omega arith) in
    let hd = headers_read c h p (simp length-drop (omega (arith, a.size))) (omega arith) in
    let ps : positions (forms_from c h p) ≡ p = positions_read c h p ∙ take_all (widths c h) p (omega arith) in
    let t : TwoBytes b (3 * c + 1) (widths c h) = rw (← n) a.counted in
    let hi = high b (3 * c + 1) (widths c h) t in
    let lo = low b (3 * c + 1) (widths c h) t in
    cut_up b c (omega (arith, a.size)) ∙ rw (forms_count c h p, hd, r, hi, lo, ps)

-- the two bytes of a plan's count
two_bytes : (φs : List Form) → record_length φs ≡ get_or (plan_of φs) (3 * length φs + 1) 0 * 256 + get_or (plan_of φs) (3 * length φs + 1 + 1) 0
unfolding plan_of
two_bytes φs =
    let n = length_headers φs in
    let r = record_length φs in
    let h = length φs ∷ headers φs in
    let ys = r / 256 ∷ r % 256 ∷ positions φs in
    let x : 3 * length φs + 1 ≡ length h + 0 = omega arith in
    let y : 3 * length φs + 1 + 1 ≡ length h + 1 = omega arith in
    let hi : get_or (h ++ ys) (3 * length φs + 1) 0 ≡ r / 256 = rw x (get_or-append-add h ys 0 0) in
    let lo : get_or (h ++ ys) (3 * length φs + 1 + 1) 0 ≡ r % 256 = rw y (get_or-append-add h ys 1 0) in
    rw (hi, lo) (sym (div-add-mod' r 256))

plan_counted : (b : List ℕ) → PlanParts b → widths_at b 0 ≡ get_or b (3 * field_count b + 1) 0 * 256 + get_or b (3 * field_count b + 1 + 1) 0
plan_counted b p =
    let e = rw (count_forms_in b) at (two_bytes (forms_in b)) in
    plan_widths b p ∙ rw (← p.whole) at e

-- Each way through the tests of `is_plan`.
module _ (b : List ℕ) where
  refused : (PlanParts b → ⊥) → false ≡ is_plan b
  refused n = by_test (is_plan b) (λ e. absurd (n (plan_parts b e))) (λ e. sym e)

  pub no_byte : length b < 1 → false ≡ is_plan b
  no_byte l = refused (λ p. omega (arith, p.size))

  pub other_count : field_count b < 1 ⊎ most_pictures < field_count b → false ≡ is_plan b
  other_count (inl l) = refused (λ p. omega (arith, p.some))
  other_count (inr l) = refused (λ p. omega (arith, p.few))

  pub no_headers : length b < 3 * field_count b + 3 → false ≡ is_plan b
  no_headers l = refused (λ p. omega (arith, p.size))

  -- The parts into which the code splits the bytes: what follows the count, and of that the headers and what
  -- follows them.
  module _ (hs more : List ℕ) (e : hs ≡ take (3 * field_count b) (take (length b - 1) (drop 1 b))) (f : more ≡ drop (3 * field_count b) (take (length b - 1) (drop 1 b)))
      (k : 2 ≤ length more) where
    behind_count : take (length b - 1) (drop 1 b) ≡ drop 1 b
    behind_count = let n : length (drop 1 b) ≤ length b - 1 = simp length-drop (omega arith) in take_all (length b - 1) (drop 1 b) n

    the_headers : hs ≡ take (3 * field_count b) (drop 1 b)
    the_headers = rw behind_count at e

    the_rest : more ≡ drop (3 * field_count b + 1) b
    the_rest = let x : 1 + 3 * field_count b ≡ 3 * field_count b + 1 = omega arith in (rw behind_count at f) ∙ drop-drop (3 * field_count b) 1 b ∙ rw x

    the_size : 3 * field_count b + 3 ≤ length b
    the_size = let n : length more ≡ length b - (3 * field_count b + 1) = rw the_rest (length-drop (3 * field_count b + 1) b) in omega arith

    the_positions : take (length more - 2) (drop 2 more) ≡ drop (3 * field_count b + 3) b
    the_positions =
        let n : length (drop 2 more) ≤ length more - 2 = simp length-drop (omega arith) in
        let x : 3 * field_count b + 1 + 2 ≡ 3 * field_count b + 3 = omega arith in
        take_all (length more - 2) (drop 2 more) n ∙ rw the_rest (drop-drop 2 (3 * field_count b + 1) b ∙ rw x)

    module _ (n : ℕ) (number : n ≡ get_or more 0 0 * 256 + get_or more 1 0) (low : (i : ℕ) → get_or b i 0 < 256) where
      counted : TwoBytes b (3 * field_count b + 1) n
      counted =
          let x : 3 * field_count b + 1 + 0 ≡ 3 * field_count b + 1 = omega arith in
          let hi : get_or more 0 0 ≡ get_or b (3 * field_count b + 1) 0 = rw the_rest (get_or-drop (3 * field_count b + 1) b 0 0 ∙ rw x) in
          let lo : get_or more 1 0 ≡ get_or b (3 * field_count b + 1 + 1) 0 = rw the_rest (get_or-drop (3 * field_count b + 1) b 1 0) in
          record { number = rw (hi, lo) at number; low = low (3 * field_count b + 1 + 1) }

      pub other_length : (n ≡ length (take (length more - 2) (drop 2 more)) → ⊥) → false ≡ is_plan b
      other_length d =
          refused (λ p. d (omega (
            arith,
            p.size,
            plan_widths b p,
            counted.number ∙ sym (plan_counted b p),
            ap length the_positions ∙ length-drop (3 * field_count b + 3) b,
          )))

      pub by_forms : n ≡ length (take (length more - 2) (drop 2 more)) → 1 ≤ field_count b → field_count b ≤ most_pictures
          → (r : Bool) → r ≡ all_read hs (take (length more - 2) (drop 2 more)) → r ≡ is_plan b
      unfolding is_plan forms_in
      by_forms s l m r q =
          let c = field_count b in
          let h = drop 1 b in
          let p = drop (3 * c + 3) b in
          let z : 3 * c ≤ length h = simp length-drop (omega (arith, the_size)) in
          let v : length p ≡ length b - (3 * c + 3) = length-drop (3 * c + 3) b in
          let y = ap length the_positions ∙ v in
          let w : widths_at b 0 ≡ widths c h = unfold widths_at in rw sub-zero in
          let g : r ≡ (eqb (widths c h) (length p) && all_good (forms_in b)) = rw (the_headers, the_positions) at q ∙ all_read_is c h p z in
          by_test (eqb (widths c h) (length p))
          (λ t.
          let d = eqb-true (widths c h) (length p) t in
          let a : Agrees b = record { size = omega (arith, d, v, w, the_size); counted = let x : n ≡ widths_at b 0 = omega (arith, d, v, w, y, s) in rw (← x) counted } in
          let i = eq_same b (plan_of (forms_in b)) (gives_again b a) in
          rw (count_forms_in b, le-leb 1 c l, le-leb c most_pictures m, i) (rw t at g ∙ sym (and-true (all_good (forms_in b)))))
          (λ t.
          let d = eqb-false (widths c h) (length p) t in
          rw t at g ∙ refused (λ o. d (omega (arith, o.size, plan_widths b o, v, w))))
