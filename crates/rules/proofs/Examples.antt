-- The sheet and the lines beside it come out of the definitions: each list by computing. Where a list fails, `found l ≡ says l` of its lines
-- one by one shows which. And the lister's limit, for every input. Assumes nothing.
use mathlib.Core.Path.{◌≡◌, refl}
use mathlib.Core.List.{List, []}
use Prim.Native.Nat.{ℕ, ◌*◌, ◌≤◌}
use native.Mathlib.Omega.{arith}
use borrow.Author.Tests.{le-leb, lt-leb}
use lib.IntN.{pos}
use lib.ListN.{length}
use Rattle.rules.specs.declared.Rounding.TheVariants.{HalfAway, Cut}
use Rattle.rules.specs.Words.{text}
use Rattle.rules.specs.Near.{Near}
use Rattle.rules.specs.Lister.{Lists, ListsLines, lines_from, most_input, over_limit}
use Rattle.rules.specs.Sheet.{All, others, sheet}
use Rattle.rules.specs.Lines
use Rattle.rules.proofs.Holding.{all_hold, all_join, definitions}

-- The customers' lines, those of which they ask a proof and the others.

pub proved : All sheet
unfolding definitions
proved = all_hold sheet refl

pub others_hold : All others
unfolding definitions
others_hold = all_hold others refl

-- Our own, by subject, and as one list.

pub statics_hold : All Lines.statics
unfolding definitions
statics_hold = all_hold Lines.statics refl

pub drifting_hold : All Lines.drifting
unfolding definitions
drifting_hold = all_hold Lines.drifting refl

pub insertions_hold : All Lines.insertions
unfolding definitions
insertions_hold = all_hold Lines.insertions refl

pub gaps_hold : All Lines.gaps
unfolding definitions
gaps_hold = all_hold Lines.gaps refl

pub digits_hold : All Lines.digits
unfolding definitions
digits_hold = all_hold Lines.digits refl

pub punches_hold : All Lines.punches
unfolding definitions
punches_hold = all_hold Lines.punches refl

pub punched_hold : All Lines.punched
unfolding definitions
punched_hold = all_hold Lines.punched refl

pub blanks_hold : All Lines.blanks
unfolding definitions
blanks_hold = all_hold Lines.blanks refl

pub alignment_hold : All Lines.alignment
unfolding definitions
alignment_hold = all_hold Lines.alignment refl

pub rounding_hold : All Lines.rounding
unfolding definitions
rounding_hold = all_hold Lines.rounding refl

pub distances_hold : All Lines.distances
unfolding definitions
distances_hold = all_hold Lines.distances refl

-- how far is too far: at a whole last place, and in rounding past a half of it
pub near_ends : Near Cut (pos 0) 0 (pos 9) 1 × (Near Cut (pos 0) 0 (pos 10) 1 → ⊥) × Near HalfAway (pos 0) 0 (pos 5) 1 × (Near HalfAway (pos 0) 0 (pos 6) 1 → ⊥)
unfolding definitions
near_ends = (record { less = omega arith; half = λ e. cut_apart e }, λ n. omega (arith, n.less), record { less = omega arith; half = λ e. omega arith }, λ n. omega (arith, n.half refl))
  where
    cut_apart : Cut ≡ HalfAway → 2 * 9 ≤ 10
    cut_apart e = let x : ◌≡◌ {A = ℕ} 0 1 = cc in absurd (omega arith)

pub readings_hold : All Lines.readings
unfolding definitions
readings_hold = all_hold Lines.readings refl

pub texts_hold : All Lines.texts
unfolding definitions
texts_hold = all_hold Lines.texts refl

pub suppressions_hold : All Lines.suppressions
unfolding definitions
suppressions_hold = all_hold Lines.suppressions refl

pub placements_hold : All Lines.placements
unfolding definitions
placements_hold = all_hold Lines.placements refl

pub limits_hold : All Lines.limits
unfolding definitions
limits_hold = all_hold Lines.limits refl

pub values_hold : All Lines.values
unfolding definitions
values_hold = all_hold Lines.values refl

pub layouts_hold : All Lines.layouts
unfolding definitions
layouts_hold = all_hold Lines.layouts refl

pub memory_hold : All Lines.memory
unfolding definitions
memory_hold = all_hold Lines.memory refl

pub orders_hold : All Lines.orders
unfolding definitions
orders_hold = all_hold Lines.orders refl

pub plan_orders_hold : All Lines.plan_orders
unfolding definitions
plan_orders_hold = all_hold Lines.plan_orders refl

pub plans_hold : All Lines.plans
unfolding definitions
plans_hold = all_hold Lines.plans refl

pub no_plans_hold : All Lines.no_plans
unfolding definitions
no_plans_hold = all_hold Lines.no_plans refl

pub runs_hold : All Lines.runs
unfolding definitions
runs_hold = all_hold Lines.runs refl

pub listings_hold : All Lines.listings
unfolding definitions
listings_hold = all_hold Lines.listings refl

pub ours_hold : All Lines.ours
ours_hold = all_join _ _ statics_hold (all_join _ _ drifting_hold (all_join _ _ insertions_hold (all_join _ _ gaps_hold (all_join _ _ digits_hold (all_join _ _ punches_hold (all_join _ _ punched_hold (all_join _ _ blanks_hold (all_join _ _ alignment_hold (all_join _ _ rounding_hold (all_join _ _ distances_hold (all_join _ _ readings_hold (all_join _ _ texts_hold (all_join _ _ suppressions_hold (all_join _ _ placements_hold (all_join _ _ limits_hold (all_join _ _ values_hold (all_join _ _ layouts_hold (all_join _ _ memory_hold (all_join _ _ orders_hold (all_join _ _ plan_orders_hold (all_join _ _ plans_hold (all_join _ _ no_plans_hold (all_join _ _ runs_hold listings_hold)))))))))))))))))))))))

-- An input of over 65,536 bytes gives one line; of any other the lines are listed.

pub over_limit_lem : (input : List ℕ) → 65537 ≤ length input → Lists input (text "0,13,0\n")
unfolding definitions over_limit
over_limit_lem input h = rw (lt-leb (length input) most_input (omega arith))

pub within_limit : (input out : List ℕ) → length input ≤ 65536 → Lists input out ≡ ListsLines (lines_from [] input) out
within_limit input out h = rw (le-leb (length input) most_input (omega arith))
