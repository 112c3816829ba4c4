-- Walks over a batch: what is asked at a place is one outcome, the records come in order and then the end,
-- and a whole batch is a sequence of additions at these places, so that what the history says holds behind
-- it. Assumes nothing.
use Prim.Native.Nat.{ℕ, ◌+◌, ◌-◌, ◌*◌, ◌%◌, ◌<◌, ◌≤◌}
use mathlib.Core.Path.{◌≡◌, refl, sym, ◌∙◌, ap}
use mathlib.Core.Bool.{true, true≢false}
use mathlib.Core.List.{List, [], ◌∷◌}
use native.Mathlib.Nat.{mul-mod_left}
use native.Mathlib.Omega.{arith}
use lib.ListN.{length}
use Rattle.rules.specs.Layout.{HasPlan, forms, record_length}
use Rattle.rules.specs.Answers.{as_layout}
use Rattle.rules.proofs.Outcomes.{of_layout, one_outcome}
use Rattle.std.specs.Prelude.{Err, None, Ok, Option, Result, Some}
use Rattle.rules.specs.declared.Refusal.{Refusal}
use Rattle.rules.specs.declared.Refused.{Refused as RefusedIn}
use Rattle.rules.proofs.Refusing.{fields_one, refusal_one}
use Rattle.totals.specs.declared.Batched.{Batched as CodeBatched}
use Rattle.totals.specs.declared.Bounds.{Bounds}
use Rattle.totals.specs.declared.Sheet.{Sheet}
use Rattle.totals.specs.Batch.{End, Next, NextIs, Record, Refused, handed, next_at, next_number, placed}
use Rattle.totals.specs.Totals.{Added}
use Rattle.totals.specs.History.{Along, Batched, Offer, Went, batched_in, further, in_turn, onward, stopped}
use Rattle.totals.proofs.Places.{fit, next_end, next_is, was_record, well_placed}
use Rattle.totals.proofs.Past.{add_one}

-- The records come in order, each behind the one before, and then the end, which is found again however often
-- it is asked for.

fits_on : (n len at : ℕ) → placed n len 0 ≡ true → at ≤ len → at % n ≡ 0 → placed n len at ≡ true
fits_on n len at p l m =
    let f = fit n len 0 p in
    well_placed n len at (record { short = f.short; whole = f.whole; inside = l; start = m })

module _ (b l batch : List ℕ) (h : HasPlan l b) where
  abbrev n : ℕ
  n = record_length (forms l)

  pub in_order_lem : placed n (length batch) 0 ≡ true → (k : ℕ) → k * n < length batch → NextIs b batch (k * n) (Record (k * n) (k * n + n))
  in_order_lem p k m =
      as_layout l h (sym (next_is n (length batch) (k * n) (fits_on n (length batch) (k * n) p (omega arith) (mul-mod_left k n)) (λ e. omega arith)))

  pub then_end : placed n (length batch) 0 ≡ true → NextIs b batch (length batch) End
  then_end p =
      as_layout l h (sym (next_end n (length batch) (length batch) (fits_on n (length batch) (length batch) p (omega arith) (fit n (length batch) 0 p).whole) refl))

-- Whole batches.

pub nearer : (len at to : ℕ) → at < to → to ≤ len → len - to < len - at
nearer len at to l m = omega arith

module _ (b batch : List ℕ) where
  pub next_one : (at : ℕ) (t u : Next) → NextIs b batch at t → NextIs b batch at u → t ≡ u
  next_one at t u = one_outcome b (λ x y. x ∙ sym y) (λ φs h x y. x ∙ sym y)

  -- what is asked of a whole batch is one outcome
  pub along_one : (at : ℕ) (s : Sheet) (r q : Batched) → Along b batch at s r → Along b batch at s q → r ≡ q
  along_one at s _ _ (stopped a x e) (stopped c y f) =
      ap (λ (z : Added). record { answer = z.answer; place = at; sheet = z.sheet }) (add_one b batch at s a c x y)
  along_one at s _ q (stopped a x e) (onward to c y f n g) =
      let i = add_one b batch at s a c x y in
      absurd (true≢false (sym (rw (← i) at f) ∙ e))
  along_one at s r _ (onward to a x e n g) (stopped c y f) =
      let i = add_one b batch at s a c x y in
      absurd (true≢false (sym e ∙ rw (← i) at f))
  along_one at s r q (onward to a x e n g) (onward to' c y f n' g') =
      let i = add_one b batch at s a c x y in
      let z = next_one at _ _ n n' in
      let t : to ≡ to' = cc in
      along_one to a.sheet r q g (rw (t, i) g')

-- So are they where the code hands them back, which are read as such.

abbrev case_of : Next → ℕ
case_of (Record from to) = 0
case_of End = 1
case_of (Refused n) = 2

abbrev first_byte : Next → ℕ
first_byte (Record from to) = from
first_byte End = 0
first_byte (Refused n) = 0

abbrev behind : Next → ℕ
behind (Record from to) = to
behind End = 0
behind (Refused n) = 0

bounds_one : (a b : Bounds) → Record a.from a.to ≡ Record b.from b.to → a ≡ b
bounds_one a b e = ap (λ (x : ℕ). record { from = x; to = a.to }) (ap first_byte e) ∙ ap (λ (x : ℕ). record { from = b.from; to = x }) (ap behind e)

other_case : {A : Type 0} {t u : Next} → t ≡ u → (case_of t ≡ case_of u → ⊥) → A
other_case e n = absurd (n (ap case_of e))

pub handed_one : (r q : Result (Option Bounds) Refusal) → handed r ≡ handed q → r ≡ q
handed_one (Ok (Some a)) (Ok (Some b)) e = ap (λ (x : Bounds). Ok (Some x)) (bounds_one a b e)
handed_one (Ok (Some a)) (Ok None) e = other_case e (λ c. omega arith)
handed_one (Ok (Some a)) (Err q) e = other_case e (λ c. omega arith)
handed_one (Ok None) (Ok (Some b)) e = other_case e (λ c. omega arith)
handed_one (Ok None) (Ok None) e = refl
handed_one (Ok None) (Err q) e = other_case e (λ c. omega arith)
handed_one (Err r) (Ok (Some b)) e = other_case e (λ c. omega arith)
handed_one (Err r) (Ok None) e = other_case e (λ c. omega arith)
handed_one (Err r) (Err q) e = ap (λ (x : Refusal). Err x) (refusal_one r q (ap next_number e))

pub batched_one : (r q : CodeBatched) → batched_in r ≡ batched_in q → r ≡ q
batched_one r q e =
    ap (λ (o : Result ℕ RefusedIn). record { outcome = o; place = r.place; sheet = r.sheet }) (fields_one r.outcome q.outcome (ap (λ (b : Batched). b.answer) e))
    ∙ ap (λ (k : ℕ). record { outcome = q.outcome; place = k; sheet = r.sheet }) (ap (λ (b : Batched). b.place) e)
    ∙ ap (λ (s : Sheet). record { outcome = q.outcome; place = q.place; sheet = s }) (ap (λ (b : Batched). b.sheet) e)

-- A whole batch goes on with a history: each addition stands in it with its number, at the places of the
-- batch in turn, up to the one that stopped.
module _ (b l batch : List ℕ) (p : HasPlan l b) where
  next_place : (at to : ℕ) → NextIs b batch at (Record at to) → to ≡ at + record_length (forms l)
  next_place at to x =
      (was_record (record_length (forms l)) (length batch) at at to (sym (of_layout l b p _ (λ φs. Record at to ≡ next_at (record_length φs) (length batch) at) x))).last

  pub through : (at : ℕ) (s : Sheet) (r : Batched) → Along b batch at s r → (h : List Offer) → Went b h s
      → (ks : List ℕ) × Went b (in_turn (record_length (forms l)) batch at ks h) r.sheet
  unfolding in_turn
  through at s _ (stopped a x e) h w = (a.answer.number ∷ [], further w batch at a x)
  through at s r (onward to a x e n g) h w =
      let z = next_place at to n in
      let q = through to a.sheet r g _ (further w batch at a x) in
      (a.answer.number ∷ q.0, rw (← z) q.1)
