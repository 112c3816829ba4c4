-- The lines on totals come out of the definitions, each list by computing. Where a list fails, `found l ≡
-- says l` of its lines one by one shows which. Assumes nothing.
use mathlib.Core.Path.{◌≡◌, refl, sym, ap}
use mathlib.Core.Bool.{Bool, true, false}
use mathlib.Core.List.{List, [], ◌∷◌, map}
use Prim.Native.Nat.{ℕ}
use lib.IntN.{ℤ, pos}
use lib.ListN.{get_or, drop}
use Rattle.rules.specs.Words.{text}
use Rattle.rules.specs.Layout.{accepted, forms, plan_of}
use Rattle.rules.specs.PlanBytes.{is_plan}
use Rattle.rules.specs.Candidate.{read_all}
use Rattle.rules.specs.Answers.{as_layout, as_no_plan}
use Rattle.rules.specs.Sheet.{success}
use Rattle.rules.proofs.Holding.{definitions}
use Rattle.rules.proofs.Outcomes.{all_read}
use Rattle.rules.proofs.Plans.{forms_good, no_layout}
use Rattle.totals.specs.Batch.{End, Next, NextIs, Record, next_at, placed, record_at, whole_in}
use Rattle.totals.specs.Totals.{Added, add_before, added_by, empty_sheet, field_numbers, greater, lesser, over, batch_added, place_numbers, record_added, sum_fits, with_row}
use Rattle.totals.specs.History.{Along, goes_on, greatest_of, least_of, onward, stopped, total}
use Rattle.totals.specs.Lines.{All, Holds, Line, adds, adds_alone, blank, finds, histories, limits, no_plan, no_plans, second, sums, three, walks, whole}

-- all that a line can say
record Outcome : Type 0 where
  layout : Bool
  added : Added
  next : Next
  values : List ℤ

abbrev nothing : Added
nothing = record { answer = success 0 (pos 0); sheet = blank }

-- what the definitions make of it
unfoldable found : Line → Outcome
found (adds l batch at s r after) = record {
  layout = accepted (text l);
  added = batch_added (forms (text l)) (text batch) at s (read_all (forms (text l)) (record_at (forms (text l)) (text batch) at));
  next = End;
  values = [];
}
found (adds_alone l rec s r after) = record {
  layout = accepted (text l);
  added = record_added (forms (text l)) (text rec) s (read_all (forms (text l)) (text rec));
  next = End;
  values = [];
}
found (no_plan b) = record { layout = is_plan b; added = nothing; next = End; values = [] }
found (finds n len at there) = record { layout = true; added = nothing; next = next_at n len at; values = [] }
found (sums ms all low high) = record { layout = true; added = nothing; next = End; values = total ms ∷ least_of ms ∷ greatest_of ms ∷ [] }

-- what the line says
unfoldable says : Line → Outcome
says (adds l batch at s r after) = record { layout = true; added = record { answer = r; sheet = after }; next = End; values = [] }
says (adds_alone l rec s r after) = record { layout = true; added = record { answer = r; sheet = after }; next = End; values = [] }
says (no_plan b) = record { layout = false; added = nothing; next = End; values = [] }
says (finds n len at there) = record { layout = true; added = nothing; next = there; values = [] }
says (sums ms all low high) = record { layout = true; added = nothing; next = End; values = all ∷ low ∷ high ∷ [] }

-- where the two are equal the line holds
holds : (l : Line) → found l ≡ says l → Holds l
unfolding Holds found says
holds (adds l batch at s r after) e =
    let a : accepted (text l) ≡ true = ap (λ (o : Outcome). o.layout) e in
    as_layout (text l) (record { layout = a; plan = refl })
    (record { says = _; reads = all_read _ _ (forms_good (text l) a); gives = sym (ap (λ (o : Outcome). o.added) e) })
holds (adds_alone l rec s r after) e =
    let a : accepted (text l) ≡ true = ap (λ (o : Outcome). o.layout) e in
    as_layout (text l) (record { layout = a; plan = refl })
    (record { says = _; reads = all_read _ _ (forms_good (text l) a); gives = sym (ap (λ (o : Outcome). o.added) e) })
holds (no_plan b) e =
    let n = no_layout b (ap (λ (o : Outcome). o.layout) e) in
    (λ batch at s. as_no_plan n refl, λ rec s. as_no_plan n refl, λ batch at. as_no_plan n refl)
holds (finds n len at there) e = ap (λ (o : Outcome). o.next) e
holds (sums ms all low high) e =
    let at : (i : ℕ) → get_or (found (sums ms all low high)).values i (pos 0) ≡ get_or (says (sums ms all low high)).values i (pos 0) =
    λ i. ap (λ (o : Outcome). get_or o.values i (pos 0)) e in
    (at 0, at 1, at 2)

all_hold : (ls : List Line) → map found ls ≡ map says ls → All ls
unfolding All
all_hold [] e = tt
all_hold (l ∷ ls) e =
    (holds l (ap (λ (os : List Outcome). get_or os 0 (found l)) e), all_hold ls (ap (λ (os : List Outcome). drop 1 os) e))

-- Each list.

unfoldable computed : ℕ
unfolding definitions whole_in placed next_at lesser greater over with_row sum_fits place_numbers field_numbers add_before added_by record_added batch_added total least_of greatest_of found says
computed = 0

pub whole_hold : All whole
unfolding computed
whole_hold = all_hold whole refl

pub limits_hold : All limits
unfolding computed
limits_hold = all_hold limits refl

pub walks_hold : All walks
unfolding computed
walks_hold = all_hold walks refl

pub no_plans_hold : All no_plans
unfolding computed
no_plans_hold = all_hold no_plans refl

pub histories_hold : All histories
unfolding computed
histories_hold = all_hold histories refl

-- And of RULES 9.12: an empty sheet, and its batch as a whole.

pub empty_is : empty_sheet ≡ blank
empty_is = refl

abbrev plan : List ℕ
plan = plan_of (forms (text "ZZ9V.99;-9;"))

next_here : (at to : ℕ) → next_at 8 24 at ≡ Record at to → NextIs plan (text three) at (Record at to)
unfolding computed
next_here at to e = as_layout (text "ZZ9V.99;-9;") (record { layout = refl; plan = refl }) (sym e)

pub batch_adds : Along plan (text three) 0 blank (record { answer = success 0 (pos 0); place = 24; sheet = second })
unfolding All Holds goes_on next_at placed whole_in
batch_adds =
    let w = whole_hold in
    onward 8 _ w.0 refl (next_here 0 8 refl) (onward 16 _ w.1.0 refl (next_here 8 16 refl) (onward 24 _ w.1.1.0 refl (next_here 16 24 refl) (stopped _ w.1.1.1.0 refl)))
