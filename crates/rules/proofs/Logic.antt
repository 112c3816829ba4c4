-- Tests as facts: what a Bool of several parts says of its parts, and either way of a test. Assumes nothing.
use mathlib.Core.Path.{◌≡◌, refl, sym, ◌∙◌}
use mathlib.Core.Bool.{Bool, true, false, ◌&&◌, ◌||◌, true≢false, false≢true}
use mathlib.Core.Logic.{◌⊎◌, inl, inr}
use Prim.Native.Nat.{ℕ, ◌<◌, ◌≤◌}
use borrow.Author.Tests.{ltb-true, ltb-false, eqb-true, eqb-false, eq-eqb, ne_eqb}
use lib.Dec.{ltb, eqb}

pub side : (b : Bool) → (b ≡ true) ⊎ (b ≡ false)
side true = inl refl
side false = inr refl

-- either way of a test; the test stands first, so that both ways know it
pub by_test : {A : Type 0} (t : Bool) → (t ≡ true → A) → (t ≡ false → A) → A
by_test true f g = f refl
by_test false f g = g refl

pub by_or : {A : Type 0} (a b : Bool) → (a || b) ≡ true → (a ≡ true → A) → (b ≡ true → A) → A
by_or true b h f g = f refl
by_or false b h f g = g h

pub both : (a b : Bool) → (a && b) ≡ true → (a ≡ true) × (b ≡ true)
both true b h = (refl, h)
both false b h = absurd (false≢true h)

pub neither : (a b : Bool) → (a || b) ≡ false → (a ≡ false) × (b ≡ false)
neither true b h = absurd (true≢false h)
neither false b h = (refl, h)

pub or_cases : (a b : Bool) → (a || b) ≡ true → (a ≡ true) ⊎ (b ≡ true)
or_cases true b e = inl refl
or_cases false b e = inr e

pub none_of : (a b c : Bool) → (a || b || c) ≡ false → (a ≡ false) × (b ≡ false) × (c ≡ false)
none_of true b c e = absurd (true≢false e)
none_of false true c e = absurd (true≢false e)
none_of false false c e = (refl, refl, e)

pub weaker : (a b c : Bool) → (a && b) ≡ true → (a && (b || c)) ≡ true
weaker true true c e = refl
weaker true false c e = absurd (false≢true e)
weaker false b c e = e

pub splits : (a b c : Bool) → (a && (b || c)) ≡ true → (a && b || c) ≡ true
splits true b c e = e
splits false b c e = absurd (false≢true e)

-- a fact that was found for both signs
pub and_at : (p : Bool → Bool) (b : Bool) → (p true && p false) ≡ true → p b ≡ true
and_at p true e = (both (p true) (p false) e).0
and_at p false e = (both (p true) (p false) e).1

at : (a b : ℕ) (t : Bool) → ltb a b ≡ t → (a < b) ⊎ (b ≤ a)
at a b true e = inl (ltb-true a b e)
at a b false e = inr (ltb-false a b e)

pub lt_or_le : (a b : ℕ) → (a < b) ⊎ (b ≤ a)
lt_or_le a b = at a b (ltb a b) refl

pub eqb_swap : (a b : ℕ) → eqb a b ≡ eqb b a
eqb_swap a b = by_test (eqb a b) (λ e. e ∙ sym (eq-eqb b a (sym (eqb-true a b e)))) (λ e. e ∙ sym (ne_eqb b a (λ q. eqb-false a b e (sym q))))
