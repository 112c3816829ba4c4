-- The table of marks has one column a role up to the marks' letters: an arm of `mark_of` is a column, by the
-- sign or for both signs, and past the table there is 0. Assumes nothing.
use mathlib.Core.Path.{◌≡◌, refl, sym}
use mathlib.Core.Bool.{Bool, true, false, cond}
use Prim.Native.Nat.{ℕ, zero, suc, ◌+◌, ◌≤◌}
use native.Mathlib.Omega.{arith}
use lib.ListN.{get_or-eq_default}
use Rattle.rules.specs.Edit.{mark, marks}

-- x is the mark of column k, by the sign
pub column : (r k : ℕ) (negative : Bool) (x : ℕ) → r ≡ k → x ≡ cond negative (mark k true) (mark k false) → x ≡ mark r negative
column r k true x e h = rw e h
column r k false x e h = rw e h

-- and whatever the sign
pub one_mark : (r k : ℕ) (negative : Bool) (x : ℕ) → r ≡ k → x ≡ mark k true → x ≡ mark k false → x ≡ mark r negative
one_mark r k true x e a b = rw e a
one_mark r k false x e a b = rw e b

-- the columns of digits and of the first drifting symbol, where no mark stands
pub no_mark : (r : ℕ) (negative : Bool) → r ≤ 2 → 32 ≡ mark r negative
unfolding mark
no_mark zero true h = refl
no_mark zero false h = refl
no_mark (suc zero) true h = refl
no_mark (suc zero) false h = refl
no_mark (suc (suc zero)) true h = refl
no_mark (suc (suc zero)) false h = refl
no_mark (suc (suc (suc r))) negative h = absurd (omega arith)

-- past the six numbers from n on
pub past : (n : ℕ) {r : ℕ} → n ≤ r → (r ≡ n → ⊥) → (r ≡ n + 1 → ⊥) → (r ≡ n + 2 → ⊥) → (r ≡ n + 3 → ⊥) → (r ≡ n + 4 → ⊥) → (r ≡ n + 5 → ⊥) → n + 6 ≤ r
past n h e0 e1 e2 e3 e4 e5 = omega arith

pub no_column : (r : ℕ) (negative : Bool) → 15 ≤ r → 0 ≡ mark r negative
unfolding mark
no_column r true h = sym (get_or-eq_default (marks true) 0 h)
no_column r false h = sym (get_or-eq_default (marks false) 0 h)
