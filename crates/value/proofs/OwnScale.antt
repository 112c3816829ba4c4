-- A value at the form's own scale: what is answered at each way through `own_number`, by any table of powers;
-- and that by the powers of ten this is the number of the rules, since there is nothing to round and the
-- aligned magnitude is the magnitude. Assumes nothing.
use Prim.Native.Nat.{ℕ, ◌^◌, ◌<◌, ◌≤◌}
use mathlib.Core.Path.{◌≡◌, refl, sym, ap, fun_ext, ◌∙◌}
use mathlib.Core.Bool.{Bool, true, false, cond, not, and-true}
use mathlib.Core.List.{List, [], ◌∷◌}
use native.Mathlib.Omega.{arith}
use borrow.Author.Tests.{lt-ltb, le-ltb, lt-leb, le-leb, leb-false}
use lib.Dec.{leb}
use lib.IntN.{ℤ, nat_abs}
use lib.ListN.{get_or}
use Rattle.std.specs.Int.{from_bool}
use Rattle.std.specs.List.{sum_by}
use Rattle.rules.specs.declared.Rounding.TheVariants.{HalfAway}
use Rattle.rules.specs.Words.{count}
use Rattle.rules.specs.Roles.{is_digit}
use Rattle.rules.proofs.Library.{count_is}
use Rattle.rules.specs.Numbers.{VALUE, SIZE, when, unless, first_of}
use Rattle.rules.specs.Text.{most_symbols}
use Rattle.rules.specs.Form.{Form, size}
use Rattle.rules.specs.Shape.{most_digits, digit_count, places}
use Rattle.rules.specs.Edit.{most_scale, in_range, is_negative, has_sign, too_big}
use Rattle.rules.proofs.Logic.{neither}
use Rattle.rules.proofs.Exact.{digit_sum, own_big}
use Rattle.rules.specs.Powers.{powers}
use Rattle.rules.proofs.Powers.{power_at}
use Rattle.value.specs.Settling.{own_number, own_over}

-- the digits, as the code counts them
digit_is : (b : Bool) → from_bool b ≡ cond b 1 0
digit_is true = refl
digit_is false = refl

pub digits_sum : (rs : List ℕ) → sum_by (λ r. from_bool (is_digit r)) rs ≡ count is_digit rs
digits_sum rs = ap (λ (f : ℕ → ℕ). sum_by f rs) (fun_ext (λ r. digit_is (is_digit r))) ∙ count_is is_digit rs

module _ (table : List ℕ) (φ : Form) (m : ℤ) (t : ℕ) (e : t ≡ nat_abs m) where
  pub own_far : 10 ^ most_digits ≤ t → VALUE ≡ own_number table φ m
  unfolding own_number first_of
  own_far h = rw (← e, le-ltb t (10 ^ most_digits) h)

  module _ (h : t < 10 ^ most_digits) where
    pub own_long : most_symbols < size φ → SIZE ≡ own_number table φ m
    unfolding own_number own_over first_of
    own_long l = rw (← e, lt-ltb t (10 ^ most_digits) h, lt-ltb most_symbols (size φ) l)

    module _ (l : size φ ≤ most_symbols) (d : ℕ) (c : d ≡ digit_count φ) where
      pub own_many : most_digits < d → SIZE ≡ own_number table φ m
      unfolding own_number own_over first_of
      own_many k = rw (← e, ← c, lt-ltb t (10 ^ most_digits) h, le-ltb most_symbols (size φ) l, lt-ltb most_digits d k)

      module _ (k : d ≤ most_digits) where
        pub own_over_lem : get_or table d 0 ≤ t → SIZE ≡ own_number table φ m
        unfolding own_number own_over first_of
        own_over_lem g = rw (← e, ← c, lt-ltb t (10 ^ most_digits) h, le-ltb most_symbols (size φ) l, le-ltb most_digits d k, le-leb (get_or table d 0) t g)

        module _ (g : t < get_or table d 0) where
          pub own_plus : is_negative m ≡ false → 0 ≡ own_number table φ m
          unfolding own_number own_over first_of
          own_plus b = rw (← e, ← c, lt-ltb t (10 ^ most_digits) h, le-ltb most_symbols (size φ) l, le-ltb most_digits d k, lt-leb (get_or table d 0) t g, b)

          module _ (b : is_negative m ≡ true) (s : Bool) (x : s ≡ has_sign φ) where
            pub own_unsigned : not s ≡ true → SIZE ≡ own_number table φ m
            unfolding own_number own_over first_of
            own_unsigned y = rw (← e, ← c, lt-ltb t (10 ^ most_digits) h, le-ltb most_symbols (size φ) l, le-ltb most_digits d k, lt-leb (get_or table d 0) t g, b, ← x, y)

            pub own_signed : not s ≡ false → 0 ≡ own_number table φ m
            unfolding own_number own_over first_of
            own_signed y = rw (← e, ← c, lt-ltb t (10 ^ most_digits) h, le-ltb most_symbols (size φ) l, le-ltb most_digits d k, lt-leb (get_or table d 0) t g, b, ← x, y)

pub ruleset ways = (digits_sum, own_far, own_long, own_many, own_over_lem, own_plus, own_unsigned, own_signed)

module _ (φ : Form) (m : ℤ) where
  module _ (l : size φ ≤ most_symbols) (k : digit_count φ ≤ most_digits) where
    big_is : own_over powers φ m ≡ too_big HalfAway φ m (places φ)
    unfolding own_over
    big_is = rw (le-ltb most_symbols (size φ) l, le-ltb most_digits (digit_count φ) k, power_at (digit_count φ) (omega arith), own_big φ HalfAway m)

    pub own_number_is : own_number powers φ m ≡ first_of (unless (in_range m (places φ)) VALUE ∷ when (too_big HalfAway φ m (places φ)) SIZE ∷ [])
    unfolding own_number in_range
    own_number_is = rw (big_is, le-leb (places φ) most_scale (omega (arith, digit_sum φ)), and-true)

  -- what is not too big has no more digits than the form
  pub own_fits : too_big HalfAway φ m (places φ) ≡ false → nat_abs m < 10 ^ digit_count φ
  own_fits e = leb-false _ _ (neither (leb (10 ^ digit_count φ) (nat_abs m)) _ (sym (own_big φ HalfAway m) ∙ e)).0
