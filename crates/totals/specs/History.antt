-- RULES 9.8 and 9.9: additions under one plan, one after the other from an empty sheet, and the totals of the
-- records that were accepted; and a whole batch as such additions. proofs/Past.antt and proofs/Whole.antt
-- prove that the sheet holds them. Assumes nothing.
use Rattle.std.specs.Prelude.{ℕ, ◌+◌, ◌<◌, ◌≤◌, ◌≡◌, Bool, true, false, cond, not, ◌&&◌, ◌||◌, List, [], ◌∷◌, map, ℤ, pos, ◌+ℤ◌, eqb, ltb, length, get_or}
use Rattle.std.proofs.Math.Option.{some}
use Rattle.std.specs.Int.Signed.{le_z}
use Rattle.rules.specs.declared.Answer.{Answer}
use Rattle.rules.specs.Numbers.{CONVERSION}
use Rattle.rules.specs.Refusals.{fields_answer}
use Rattle.rules.specs.Form.{Form}
use Rattle.rules.specs.Answers.{RecordReads}
use Rattle.totals.specs.declared.Sheet.{Sheet}
use Rattle.totals.specs.declared.Batched.{Batched as CodeBatched}
use Rattle.totals.specs.Batch.{NextIs, Record, record_at}
use Rattle.totals.specs.Totals.{AddIs, Added, RecordAddIs, empty_sheet}

-- one addition as it went: the batch and the place that were offered, and the number that came back
pub record Offer : Type 0 where
  pub batch : List ℕ
  pub place : ℕ
  pub number : ℕ

-- the history of a sheet, the newest addition first: each got the sheet that the one before handed back. A
-- record that stands alone is offered at place 0 of itself.
pub data Went (b : List ℕ) : List Offer → Sheet → Type 0 where
  begun : Went b [] empty_sheet
  further : {h : List Offer} {s : Sheet} → Went b h s → (batch : List ℕ) (at : ℕ) (r : Added) → AddIs b batch at s r
      → Went b (record { batch = batch; place = at; number = r.answer.number } ∷ h) r.sheet
  alone : {h : List Offer} {s : Sheet} → Went b h s → (rec : List ℕ) (r : Added) → RecordAddIs b rec s r
      → Went b (record { batch = rec; place = 0; number = r.answer.number } ∷ h) r.sheet

-- the record was accepted: number 0, and there was one. No sheet is asked.
unfoldable pub is_accepted : Offer → Bool
is_accepted o = eqb o.number 0 && not (eqb o.place (length o.batch))

-- the values of the records accepted, each as its pictures read it
pub data Rows (φs : List Form) : List Offer → List (List ℤ) → Type 0 where
  none : Rows φs [] []
  passed : {o : Offer} {h : List Offer} {rows : List (List ℤ)} → is_accepted o ≡ false → Rows φs h rows → Rows φs (o ∷ h) rows
  kept : {o : Offer} {h : List Offer} {rows : List (List ℤ)} {ms : List ℤ} → is_accepted o ≡ true
      → RecordReads φs (record_at φs o.batch o.place) (map some ms) → Rows φs h rows → Rows φs (o ∷ h) (ms ∷ rows)

-- the values at place i
unfoldable pub column : ℕ → List (List ℤ) → List ℤ
column i rows = map (λ row. get_or row i (pos 0)) rows

-- the sum, the least and the greatest of a column; of an empty one 0
unfoldable pub total : List ℤ → ℤ
total [] = pos 0
total (m ∷ ms) = total ms +ℤ m

unfoldable pub least_of : List ℤ → ℤ
least_of [] = pos 0
least_of (m ∷ []) = m
least_of (m ∷ k ∷ ms) = let low = least_of (k ∷ ms) in cond (le_z low m) low m

unfoldable pub greatest_of : List ℤ → ℤ
greatest_of [] = pos 0
greatest_of (m ∷ []) = m
greatest_of (m ∷ k ∷ ms) = let high = greatest_of (k ∷ ms) in cond (le_z m high) high m

-- the sheet holds the totals of these rows at its first places, and nothing behind them
pub record HoldsTotals (places : ℕ) (s : Sheet) (rows : List (List ℤ)) : Type 0 where
  pub count : s.count ≡ length rows
  pub sums : (i : ℕ) → i < places → get_or s.sums i (pos 0) ≡ total (column i rows)
  pub leasts : (i : ℕ) → i < places → get_or s.least i (pos 0) ≡ least_of (column i rows)
  pub greatests : (i : ℕ) → i < places → get_or s.greatest i (pos 0) ≡ greatest_of (column i rows)
  pub behind : (i : ℕ) → places ≤ i → (get_or s.sums i (pos 0) ≡ pos 0) × (get_or s.least i (pos 0) ≡ pos 0) × (get_or s.greatest i (pos 0) ≡ pos 0)

-- what a whole batch gives: the answer that the adding stopped with, number 0 at the batch's end; the place
-- where it stopped; and the sheet with those records of it that were accepted; and the same of what the code
-- gives
pub record Batched : Type 0 where
  pub answer : Answer
  pub place : ℕ
  pub sheet : Sheet

abbrev pub batched_in : CodeBatched → Batched
batched_in r = record { answer = fields_answer r.outcome; place = r.place; sheet = r.sheet }

-- RULES 9.9, a whole batch, from a place on. The adding goes on behind a record that was added and behind one
-- with CONVERSION; else it stops, at the batch's end with number 0.
unfoldable pub goes_on : Answer → Bool
goes_on r = ltb 0 r.length || eqb r.number CONVERSION

pub data Along (b batch : List ℕ) : ℕ → Sheet → Batched → Type 0 where
  stopped : {at : ℕ} {s : Sheet} (a : Added) → AddIs b batch at s a → goes_on a.answer ≡ false
      → Along b batch at s (record { answer = a.answer; place = at; sheet = a.sheet })
  onward : {at : ℕ} {s : Sheet} {r : Batched} (to : ℕ) (a : Added) → AddIs b batch at s a → goes_on a.answer ≡ true → NextIs b batch at (Record at to)
      → Along b batch to a.sheet r → Along b batch at s r

-- the history h with one addition more for each of these numbers, at the places of one batch: the first at
-- `at`, each n bytes behind the one before
unfoldable pub in_turn : ℕ → List ℕ → ℕ → List ℕ → List Offer → List Offer
in_turn n batch at [] h = h
in_turn n batch at (k ∷ ks) h = in_turn n batch (at + n) ks (record { batch = batch; place = at; number = k } ∷ h)
