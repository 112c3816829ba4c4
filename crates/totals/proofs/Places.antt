-- Places in a batch of whole records: what is found at each, and back from what was found. Assumes nothing.
use mathlib.Core.Path.{◌≡◌}
use mathlib.Core.Bool.{true, false}
use mathlib.Core.List.{List, [], ◌∷◌}
use mathlib.Core.Logic.{⊎_elim}
use Prim.Native.Nat.{ℕ, suc, ◌+◌, ◌/◌, ◌%◌, ◌<◌, ◌≤◌}
use native.Mathlib.Nat.{div-add-mod', mul-le-mul_right}
use native.Mathlib.Omega.{arith}
use borrow.Author.Tests.{le-leb, eq-eqb, ne_eqb, leb-true, eqb-true, eqb-false}
use lib.Dec.{leb, eqb}
use lib.ListN.{length}
use Rattle.rules.specs.Numbers.{unless}
use Rattle.rules.specs.Roles.{is_digit}
use Rattle.rules.specs.Form.{Form}
use Rattle.rules.specs.Shape.{digit_count, digits_fit}
use Rattle.rules.specs.Layout.{record_length}
use Rattle.rules.specs.Good.{good}
use Rattle.rules.specs.PlanBytes.{all_good, forms_in, is_plan}
use Rattle.rules.proofs.Forms.{good_parts}
use Rattle.rules.proofs.Lists.{count_le}
use Rattle.rules.proofs.Logic.{both, by_test, lt_or_le}
use Rattle.rules.proofs.PlanWalk.{count_forms_in, plan_parts}
use Rattle.totals.specs.Batch.{End, Record, Refused, most_batch, next_at, next_number, placed, whole_in}

-- a record of a plan has a character at least
pub some_record : (φs : List Form) → 1 ≤ length φs → all_good φs ≡ true → 1 ≤ record_length φs
unfolding all_good record_length digits_fit
some_record [] h g = absurd (omega arith)
some_record (φ ∷ φs) h g =
    let d = (good_parts φ (both (good φ) (all_good φs) g).0).digits in
    omega (arith, leb-true 1 (digit_count φ) (both (leb 1 (digit_count φ)) _ d).0, count_le is_digit φ.roles)

pub plan_some : (b : List ℕ) → is_plan b ≡ true → 1 ≤ record_length (forms_in b)
plan_some b h = let p = plan_parts b h in some_record (forms_in b) (omega (arith, p.some, count_forms_in b)) p.good

-- behind a record's start that is not the end a whole record stands
record_fits : (n len at : ℕ) → len % n ≡ 0 → at % n ≡ 0 → at < len → at + n ≤ len
record_fits n len at w v l =
    let x = div-add-mod' len n in
    let y = div-add-mod' at n in
    ⊎_elim
    (λ (h : at / n < len / n). omega (arith, x, y, mul-le-mul_right {m = suc (at / n)} {n = len / n} n h))
    (λ (h : len / n ≤ at / n). absurd (omega (arith, x, y, mul-le-mul_right {m = len / n} {n = at / n} n h)))
    (lt_or_le (at / n) (len / n))

-- what a place has that is a record's start or the end
pub record Fit (n len at : ℕ) : Type 0 where
  pub short : len ≤ most_batch
  pub whole : len % n ≡ 0
  pub inside : at ≤ len
  pub start : at % n ≡ 0

-- a record found there, from its first byte up to the next one's
pub record Here (n len at from to : ℕ) : Type 0 where
  pub fits : placed n len at ≡ true
  pub more : at ≡ len → ⊥
  pub first : from ≡ at
  pub last : to ≡ at + n
  pub within : at + n ≤ len

module _ (n len at : ℕ) where
  pub well_placed : Fit n len at → placed n len at ≡ true
  unfolding placed whole_in
  well_placed f = rw (le-leb len most_batch f.short, eq-eqb (len % n) 0 f.whole, le-leb at len f.inside, eq-eqb (at % n) 0 f.start)

  pub fit : placed n len at ≡ true → Fit n len at
  unfolding placed whole_in
  fit h =
      let w = both (leb len most_batch) _ h in
      let x = both (eqb (len % n) 0) _ w.1 in
      let y = both (leb at len) _ x.1 in
      record { short = leb-true len most_batch w.0; whole = eqb-true (len % n) 0 x.0; inside = leb-true at len y.0; start = eqb-true (at % n) 0 y.1 }

  pub next_refused : placed n len at ≡ false → next_at n len at ≡ Refused 9
  unfolding next_at
  next_refused h = rw h

  pub next_end : placed n len at ≡ true → at ≡ len → next_at n len at ≡ End
  unfolding next_at
  next_end h e = rw (h, eq-eqb at len e)

  pub next_is : placed n len at ≡ true → (at ≡ len → ⊥) → next_at n len at ≡ Record at (at + n)
  unfolding next_at
  next_is h e = rw (h, ne_eqb at len e)

  -- the number of what is found is LENGTH exactly where the place isn't fit
  pub next_number_lem : next_number (next_at n len at) ≡ unless (placed n len at) 9
  unfolding next_at
  next_number_lem =
      by_test (placed n len at) (λ p. by_test (eqb at len) (λ e. rw (p, e)) (λ e. rw (p, e))) (λ p. rw p)

  -- three ways: refused, the end, a record
  pub ways : {A : Type 0} → (placed n len at ≡ false → next_at n len at ≡ Refused 9 → A) → (placed n len at ≡ true → at ≡ len → next_at n len at ≡ End → A)
      → (placed n len at ≡ true → (at ≡ len → ⊥) → next_at n len at ≡ Record at (at + n) → A) → A
  ways f g h =
      by_test (placed n len at)
      (λ p. by_test (eqb at len) (λ e. let q = eqb-true at len e in g p q (next_end p q)) (λ e. let q = eqb-false at len e in h p q (next_is p q)))
      (λ p. f p (next_refused p))

  pub was_refused : (k : ℕ) → next_at n len at ≡ Refused k → (placed n len at ≡ false) × (k ≡ 9)
  was_refused k h =
      ways (λ p g. let q : k ≡ 9 = cc in (p, q))
      (λ p e g. let z : ◌≡◌ {A = ℕ} 0 1 = cc in absurd (omega arith))
      (λ p e g. let z : ◌≡◌ {A = ℕ} 0 1 = cc in absurd (omega arith))

  pub was_end : next_at n len at ≡ End → (placed n len at ≡ true) × (at ≡ len)
  was_end h =
      ways (λ p g. let z : ◌≡◌ {A = ℕ} 0 1 = cc in absurd (omega arith))
      (λ p e g. (p, e))
      (λ p e g. let z : ◌≡◌ {A = ℕ} 0 1 = cc in absurd (omega arith))

  pub at_within : placed n len at ≡ true → (at ≡ len → ⊥) → at + n ≤ len
  at_within p e = let f = fit p in record_fits n len at f.whole f.start (below f.inside)
    where
      below : at ≤ len → at < len
      below l = omega arith

  -- where no record is left, the place is the end
  pub none_left : placed n len at ≡ true → len < at + n → at ≡ len
  none_left p l = by_test (eqb at len) (λ e. eqb-true at len e) (λ e. absurd (beyond_end (at_within p (eqb-false at len e))))
    where
      beyond_end : at + n ≤ len → ⊥
      beyond_end m = omega arith

  pub was_record : (from to : ℕ) → next_at n len at ≡ Record from to → Here n len at from to
  was_record from to h =
      ways (λ p g. let z : ◌≡◌ {A = ℕ} 0 1 = cc in absurd (omega arith))
      (λ p e g. let z : ◌≡◌ {A = ℕ} 0 1 = cc in absurd (omega arith))
      (λ p e g. let x : from ≡ at = cc in let y : to ≡ at + n = cc in record { fits = p; more = e; first = x; last = y; within = at_within p e })
