-- The table of powers of ten holds 10^k at place k, since a table made by a rule holds the rule's value at each place. Assumes nothing.
use mathlib.Core.Path.{◌≡◌, refl}
use Prim.Native.Nat.{ℕ, zero, suc, ◌^◌, ◌<◌}
use native.Mathlib.Nat.{le_of_suc-le-suc, not-suc-le-zero}
use lib.ListN.{get_or}
use Rattle.rules.specs.Shape.{most_digits}
use Rattle.rules.specs.Powers.{table, powers}
use Rattle.rules.proofs.Digits.{ten_pos}

table_at : (f : ℕ → ℕ) (n k : ℕ) → k < n → get_or (table f n) k 0 ≡ f k
table_at f zero k h = absurd (not-suc-le-zero h)
table_at f (suc n) zero h = refl
table_at f (suc n) (suc k) h = table_at (λ j. f (suc j)) n k (le_of_suc-le-suc h)

pub power_at : (k : ℕ) → k < suc most_digits → get_or powers k 0 ≡ 10 ^ k
power_at k h = table_at (λ j. 10 ^ j) (suc most_digits) k h

pub power_pos : (k : ℕ) → k < suc most_digits → 0 < get_or powers k 0
power_pos k h = rw (power_at k h) (ten_pos k)
