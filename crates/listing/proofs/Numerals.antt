-- A number in decimal is its digits from the first that is not 0 on, and so is what std prints. Assumes
-- nothing.
use mathlib.Core.Path.{◌≡◌, refl, sym, ◌∙◌, ap}
use mathlib.Core.List.{List, [], ◌∷◌, ◌++◌, map}
use mathlib.Core.Logic.{inl, inr, ⊎_elim}
use Prim.Native.Nat.{ℕ, zero, suc, ◌+◌, ◌-◌, ◌/◌, ◌%◌, ◌^◌, ◌≤◌, ◌<◌}
use Prim.Native.Char.{code}
use native.Mathlib.Nat.{zero-add, suc-add, pow-suc, pow-succ', lt_of_lt_of_le, div-one, div-eq_of_lt, div-div-eq-div-mul, le-div_iff_mul-le, div-lt_iff_lt-mul, mod-eq_of_lt}
use native.Mathlib.Omega.{arith}
use lib.IntN.{ℤ, pos, negsuc}
use lib.ListN.{length, length-map}
use mir.Syntax.{w64}
use mir.Val.{SFits}
use Rattle.std.specs.Fmt.{decimal as printed, signed_decimal as signed_printed}
use Rattle.std.proofs.lemmas.Fmt.{decimal_by_steps}
use Rattle.rules.specs.Digits.{digits_of}
use Rattle.rules.specs.Lister.{trimmed, decimal, signed_decimal}
use Rattle.rules.proofs.Digits.{ten_pos, ten_le, digits_length}
use Rattle.rules.proofs.Logic.{lt_or_le}

-- the last d digits of a number, as characters
abbrev spelled : ℕ → ℕ → List ℕ
spelled d n = map (λ c. code "0" + c) (digits_of d n)

-- The first of more digits than the number has is 0, and goes.
trim_more : (k n : ℕ) → 1 ≤ k → n < 10 ^ k → trimmed (digits_of (suc k) n) ≡ trimmed (digits_of k n)
unfolding digits_of trimmed
trim_more zero n l h = absurd (omega arith)
trim_more (suc k) n l h = rw (div-eq_of_lt h)

trim_all : (g k n : ℕ) → 1 ≤ k → n < 10 ^ k → trimmed (digits_of (g + k) n) ≡ trimmed (digits_of k n)
trim_all zero k n l h = rw zero-add
trim_all (suc g) k n l h =
    rw (suc-add g k) (trim_more (g + k) n (omega arith) (lt_of_lt_of_le h (ten_le k (g + k) (omega arith))) ∙ trim_all g k n l h)

-- The first of just as many is not 0, and stays.
first_digit : (d n : ℕ) → 10 ^ d ≤ n → n < 10 ^ suc d → n / 10 ^ d % 10 ≡ suc (n / 10 ^ d - 1)
first_digit d n l h =
    let a : 1 ≤ n / 10 ^ d = (le-div_iff_mul-le (ten_pos d)).1 (omega arith) in
    let b : n / 10 ^ d < 10 = (div-lt_iff_lt-mul (ten_pos d)).1 (omega (arith, pow-suc 10 d)) in
    mod-eq_of_lt b ∙ omega arith

trim_top : (d n : ℕ) → (1 ≤ d → 10 ^ d ≤ n) → n < 10 ^ suc d → trimmed (digits_of (suc d) n) ≡ spelled (suc d) n
unfolding digits_of trimmed
trim_top zero n l h = refl
trim_top (suc d) n l h = rw (first_digit (suc d) n (l (omega arith)) h)

-- a number of 64 bits has at most twenty digits
twenty : (d n : ℕ) → 10 ^ d ≤ n → n < 2 ^ 64 → d < 20
twenty d n l h = ⊎_elim (λ w. w) (λ w. absurd (omega (arith, ten_le 20 d w))) (lt_or_le d 20)

-- The last digit stands behind those of a tenth of the number.
last_digit : (d n : ℕ) → spelled (suc d) n ≡ spelled d (n / 10) ++ ((48 + n % 10) ∷ [])
unfolding digits_of
last_digit zero n = rw (div-one n)
last_digit (suc d) n =
    let e : n / 10 ^ suc d ≡ n / 10 / 10 ^ d = rw (pow-succ' 10 d) (sym (div-div-eq-div-mul n 10 (10 ^ d))) in
    rw e (ap (λ t. (48 + n / 10 / 10 ^ d % 10) ∷ t) (last_digit d n))

-- What std prints: as many digits as the number has.
record Spells (n : ℕ) (text : List ℕ) : Type 0 where
  pub more : ℕ
  pub below : n < 10 ^ suc more
  pub reached : 1 ≤ more → 10 ^ more ≤ n
  pub is : text ≡ spelled (suc more) n

spells_one : (n : ℕ) → n < 10 → Spells n ((48 + n) ∷ [])
unfolding digits_of
spells_one n h = record { more = 0; below = h; reached = λ l. absurd (omega arith); is = rw (div-one n, mod-eq_of_lt h) }

spells_more : (n : ℕ) (ds : List ℕ) → 10 ≤ n → Spells (n / 10) ds → Spells n (ds ++ ((48 + n % 10) ∷ []))
spells_more n ds h s =
    let d = s.more in
    record {
      more = suc d;
      below = rw (pow-suc 10 (suc d)) (omega (arith, s.below));
      reached = λ l. elim (lt_or_le 0 d) [
        | inl w ↦ rw (pow-suc 10 d) (omega (arith, s.reached w))
        | inr w ↦ let e : d ≡ 0 = omega arith in rw e h
      ];
      is = rw s.is (sym (last_digit (suc d) n));
    }

pub decimal_same : (n : ℕ) → n < 2 ^ 64 → printed n ≡ decimal n
unfolding decimal
decimal_same n h =
    let s = decimal_by_steps Spells spells_one spells_more n h in
    let d = s.more in
    let few : d < 20 = elim (lt_or_le 0 d) [
      | inl w ↦ twenty d n (s.reached w) h
      | inr w ↦ omega arith
    ] in
    let g : 20 ≡ 20 - suc d + suc d = omega arith in
    s.is ∙ sym (rw g (trim_all (20 - suc d) (suc d) n (omega arith) s.below ∙ trim_top d n s.reached s.below))

pub signed_same : (z : ℤ) → SFits w64 z → signed_printed z ≡ signed_decimal z
signed_same (pos n) f = decimal_same n (omega (arith, f.sfits))
signed_same (negsuc n) f = rw (decimal_same (suc n) (omega (arith, f.sfits)))

-- A decimal has at most twenty characters.
trimmed_le : (ds : List ℕ) → length (trimmed ds) ≤ length ds
unfolding trimmed
trimmed_le [] = omega arith
trimmed_le (d ∷ []) = omega arith
trimmed_le (zero ∷ e ∷ ds) = omega (arith, trimmed_le (e ∷ ds))
trimmed_le (suc d ∷ e ∷ ds) = omega (arith, length-map ds (λ (c : ℕ). code "0" + c))

pub decimal_le : (n : ℕ) → length (decimal n) ≤ 20
unfolding decimal
decimal_le n = omega (arith, trimmed_le (digits_of 20 n), digits_length 20 n)

pub signed_le : (z : ℤ) → length (signed_decimal z) ≤ 21
signed_le (pos n) = omega (arith, decimal_le n)
signed_le (negsuc n) = omega (arith, decimal_le (suc n))
