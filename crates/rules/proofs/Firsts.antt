-- The first refusal of several: what it says of each, where it stops and where it passes on; and what a refusal does to the answer and to lent
-- memory. Assumes nothing.
use mathlib.Core.Path.{◌≡◌, refl}
use mathlib.Core.Bool.{Bool, true, false}
use mathlib.Core.List.{List, [], ◌∷◌, ◌++◌}
use Prim.Native.Nat.{ℕ, zero, suc, ◌+◌, ◌≤◌}
use native.Mathlib.Omega.{arith}
use lib.IntN.{ℤ, pos}
use Rattle.rules.specs.Numbers.{bad_field, first_of, later, unless}
use Rattle.rules.specs.Edit.{field}
use Rattle.rules.specs.Answers.{answer, lent_after}

pub first_zero : (n : ℕ) (ns : List ℕ) → first_of (n ∷ ns) ≡ 0 → (n ≡ 0) × (first_of ns ≡ 0)
unfolding first_of
first_zero zero ns h = (refl, h)
first_zero (suc n) ns h = absurd (omega arith)

pub unless_zero : (t : Bool) (n : ℕ) → unless t (suc n) ≡ 0 → t ≡ true
unless_zero true n h = refl
unless_zero false n h = absurd (omega arith)

-- the first test stops, or passes
pub first_here : (n : ℕ) (ns : List ℕ) → (n ≡ 0 → ⊥) → first_of (n ∷ ns) ≡ n
unfolding first_of
first_here zero ns h = absurd (h refl)
first_here (suc n) ns h = refl

pub first_next : (n : ℕ) (ns : List ℕ) → n ≡ 0 → first_of (n ∷ ns) ≡ first_of ns
unfolding first_of
first_next n ns h = rw h

pub first_one : (n : ℕ) → first_of (n ∷ []) ≡ n
unfolding first_of
first_one zero = refl
first_one (suc n) = refl

-- the first tests pass, or one of them stops
pub first_pass : (ms ns : List ℕ) → first_of ms ≡ 0 → first_of (ms ++ ns) ≡ first_of ns
unfolding first_of
first_pass [] ns h = refl
first_pass (zero ∷ ms) ns h = first_pass ms ns h
first_pass (suc m ∷ ms) ns h = absurd (omega arith)

pub first_stop : (ms ns : List ℕ) → (first_of ms ≡ 0 → ⊥) → first_of (ms ++ ns) ≡ first_of ms
unfolding first_of
first_stop [] ns h = absurd (h refl)
first_stop (zero ∷ ms) ns h = first_stop ms ns h
first_stop (suc m ∷ ms) ns h = refl

-- the first bad field is counted on behind a field that is well, and there is none where no field is bad
pub later_some : (k : ℕ) → 1 ≤ k → later k ≡ k + 1
later_some zero h = absurd (omega arith)
later_some (suc k) h = omega arith

pub no_bad : (ns : List ℕ) → first_of ns ≡ 0 → bad_field ns ≡ 0
unfolding first_of bad_field
no_bad [] h = refl
no_bad (zero ∷ ns) h = rw (no_bad ns h)
no_bad (suc n ∷ ns) h = absurd (omega arith)

pub refuses : (n field length : ℕ) (value : ℤ) → (n ≡ 0 → ⊥) → record { number = n; field = field; length = 0; value = pos 0 } ≡ answer n field length value
refuses zero field length value h = absurd (h refl)
refuses (suc n) field length value h = refl

pub lent_kept : {A : Type 0} (n : ℕ) (written lent : List A) → (n ≡ 0 → ⊥) → lent_after n written lent ≡ lent
lent_kept zero written lent h = absurd (h refl)
lent_kept (suc n) written lent h = refl
