-- RULES 9.1 to 9.3: batches, the records in them, and what the walker hands over at a place. Assumes nothing.
use Rattle.std.specs.Prelude.{ℕ, zero, suc, ◌+◌, ◌%◌, ◌≡◌, Bool, cond, ◌&&◌, List, leb, eqb, length, take, drop, Result, Ok, Err, Option, None, Some}
use Rattle.rules.specs.Numbers.{LENGTH, PLAN, unless}
use Rattle.rules.specs.declared.Refusal.{Refusal}
use Rattle.rules.specs.Refusals.{refusal_number}
use Rattle.rules.specs.Form.{Form}
use Rattle.rules.specs.Layout.{record_length}
use Rattle.rules.specs.Answers.{ByPlan}
use Rattle.totals.specs.declared.Bounds.{Bounds}

-- RULES 9.1: so many bytes at most
abbrev pub most_batch : ℕ
most_batch = 65536

-- so many bytes are whole records of n bytes
unfoldable pub whole_in : ℕ → ℕ → Bool
whole_in n k = eqb (k % n) 0

-- RULES 9.2: LENGTH is given where this fails. With records of n bytes, a batch of this length isn't too long
-- and has whole ones; a record begins at the place, or it is the end.
unfoldable pub placed : ℕ → ℕ → ℕ → Bool
placed n len at = leb len most_batch && (whole_in n len && (leb at len && whole_in n at))

-- the record at a place
abbrev pub record_at : List Form → List ℕ → ℕ → List ℕ
record_at φs batch at = take (record_length φs) (drop at batch)

-- what a walk over a batch hands over: a record, from its first byte up to the second number; the end; or a
-- refusal with its number
pub data Next : Type 0 where
  Record : ℕ → ℕ → Next
  End : Next
  Refused : ℕ → Next

-- a refusal with its number, or what is there; and the number of each case
abbrev pub next_of : ℕ → Next → Next
next_of zero there = there
next_of (suc n) there = Refused (suc n)

abbrev pub next_number : Next → ℕ
next_number (Record from to) = 0
next_number End = 0
next_number (Refused n) = n

-- the same as a result of the code
abbrev pub handed : Result (Option Bounds) Refusal → Next
handed (Ok None) = End
handed (Ok (Some here)) = Record here.from here.to
handed (Err r) = Refused (refusal_number r)

-- RULES 9.3: with records of n bytes, in a batch of this length: the record from its first byte up to the
-- next one's, or the end
unfoldable pub next_at : ℕ → ℕ → ℕ → Next
next_at n len at = next_of (unless (placed n len at) LENGTH) (cond (eqb at len) End (Record at (at + n)))

-- RULES 9.3: what is handed over at this place is right
abbrev pub NextIs : List ℕ → List ℕ → ℕ → Next → Type 0
NextIs b batch at r = ByPlan b (r ≡ Refused PLAN) (λ φs. r ≡ next_at (record_length φs) (length batch) at)
