-- RULES 3, from value to field. Assumes nothing.
use Rattle.std.specs.Prelude.{Bool, true, false, cond, not, ◌&&◌, ◌||◌, List, ℕ, ◌+◌, ◌*◌, ◌/◌, ◌%◌, ◌^◌, ℤ, pos, negsuc, neg_ℤ, nat_abs, leb, ltb, eqb, get_or, take}
use Prim.Native.Char.{code}
use Rattle.rules.specs.declared.Rounding.{Rounding}
use Rattle.rules.specs.declared.Rounding.TheVariants.{HalfAway, Cut}
use Rattle.rules.specs.Words.{text, any, count, one}
use Rattle.rules.specs.Search.{first, last, up_to}
use Rattle.rules.specs.Digits.{digits_of}
use Rattle.rules.specs.Roles.{is_nine, is_digit, is_b, opens, is_sign, drifts, drifts_sign}
use Rattle.rules.specs.Form.{Form, size, role_at}
use Rattle.rules.specs.Shape.{most_digits, digit_count, places}

-- RULES 3.1: no scale is larger than the number of digits that a picture may have
abbrev pub most_scale : ℕ
most_scale = most_digits

-- RULES 3.1: M has no more digits than that, and q is a scale
unfoldable pub in_range : ℤ → ℕ → Bool
in_range m q = ltb (nat_abs m) (10 ^ most_digits) && leb q most_scale

abbrev pub is_negative : ℤ → Bool
is_negative (pos n) = false
is_negative (negsuc n) = true

-- the number with this sign and magnitude; zero has no sign
abbrev pub signed : Bool → ℕ → ℤ
signed false t = pos t
signed true t = neg_ℤ (pos t)

-- RULES 3.2: a fraction, as what is left of a division by d, counts as one
unfoldable pub rounds_up : Rounding → ℕ → ℕ → Bool
rounds_up HalfAway rest d = leb d (2 * rest)
rounds_up Cut rest d = false

-- the division in this mode
unfoldable pub quotient : Rounding → ℕ → ℕ → ℕ
quotient w x d = x / d + one (rounds_up w (x % d) d)

-- the magnitude at the picture's scale
unfoldable pub aligned : Rounding → Form → ℤ → ℕ → ℕ
aligned w φ m q = quotient w (nat_abs m * 10 ^ places φ) (10 ^ q)

-- RULES 3.3: zero has the sign plus
unfoldable pub is_minus : Rounding → Form → ℤ → ℕ → Bool
is_minus w φ m q = is_negative m && not (eqb (aligned w φ m q) 0)

-- the picture has a sign
unfoldable pub has_sign : Form → Bool
has_sign φ = any is_sign φ.roles || drifts_sign φ.kind

-- RULES 3.4: more digits than the picture has, or a minus for which it has no sign
unfoldable pub too_big : Rounding → Form → ℤ → ℕ → Bool
too_big w φ m q = leb (10 ^ digit_count φ) (aligned w φ m q) || is_minus w φ m q && not (has_sign φ)

-- RULES 3.6: the fill
unfoldable pub fill : ℕ → ℕ
fill kind = cond (eqb kind 2) (code "*") (code " ")

-- RULES 3.11 and 3.12: the characters of insertions, static symbols and marks. One column for each role up to the marks' letters, under the symbols;
-- those of the digits and of the first drifting symbol are not used.
abbrev pub marks : Bool → List ℕ
marks negative =
    cond negative
    --    9ZdS+-$,./BCRDB
    (text "   - -$,./ CRDB")
    (text "   ++ $,./     ")

-- the character of a role that is no digit; of a drifting symbol by the kind, which has the number of the symbol's static role
unfoldable pub mark : ℕ → Bool → ℕ
mark r negative = get_or (marks negative) r 0

-- RULES 3.10: the three lists one behind the other: the digit itself, with a plus punched over it, and with a minus
abbrev pub figures : List ℕ
figures = text "0123456789{ABCDEFGHI}JKLMNOPQR"

-- the list from which a digit prints: of T, of I, of R and of every other digit
unfoldable pub list_of : ℕ → Bool → ℕ
list_of r negative =
    cond (eqb r 15) (cond negative 2 1)
    (cond (eqb r 16) (cond negative 0 1)
    (cond (eqb r 17) (cond negative 2 0) 0))

-- the character of a digit
unfoldable pub digit_char : ℕ → Bool → ℕ → ℕ
digit_char r negative d = get_or figures (10 * list_of r negative + d) 0

-- outside the stretch each position prints
unfoldable pub printed : ℕ → Bool → ℕ → ℕ
printed r negative d = cond (is_digit r) (digit_char r negative d) (mark r negative)

-- RULES 3.6: a hidden one shows the fill, but B is a blank always
unfoldable pub suppressed : ℕ → ℕ → ℕ
suppressed kind r = cond (is_b r) (code " ") (fill kind)

-- the character at one position: whether it lies inside the stretch, whether the drifting character stands there, the sign and the digit
unfoldable pub cell : ℕ → ℕ → Bool → Bool → Bool → ℕ → ℕ
cell kind r inside here negative d = cond inside (cond here (mark kind negative) (suppressed kind r)) (printed r negative d)

-- A form, and where the stretch of its fields begins.
module _ (φ : Form) where
  -- RULES 3.9: from here on, if at all, positions are hidden
  unfoldable pub opening : ℕ
  opening = first (λ k. opens (role_at φ k)) (size φ)

  -- every digit is suppressible
  unfoldable pub all_suppressible : Bool
  all_suppressible = not (any is_nine φ.roles)

  -- The digits of the value.
  module _ (ds : List ℕ) where
    -- RULES 3.5: the digit at position k: as many of the value's digits stand before it as there are digits before k
    unfoldable pub digit_at : ℕ → ℕ
    digit_at k = get_or ds (count is_digit (take k φ.roles)) 0

    -- RULES 3.8: a digit that is a nine, or not 0, or stands behind V
    unfoldable pub is_shown : ℕ → Bool
    is_shown k = is_digit (role_at φ k) && (not (eqb (digit_at k) 0) || is_nine (role_at φ k) || leb φ.vee k)

    unfoldable pub first_shown : ℕ
    first_shown = first (λ k. is_shown k) (size φ)

    -- at V where that digit stands behind it
    unfoldable pub start : ℕ
    start = cond (leb φ.vee first_shown) φ.vee first_shown

    -- RULES 3.9: the stretch; no k is in it where printing starts at the opening or before
    unfoldable pub in_stretch : ℕ → Bool
    in_stretch k = leb opening k && ltb k start

    -- RULES 3.13: of the positions before the start, the one furthest right that is no B has the drifting character. It is one of the stretch, unless
    -- that is empty (`drifts_in` in proofs/Stretch.antt).
    unfoldable pub drifts_to : ℕ
    drifts_to = last (λ k. not (is_b (role_at φ k))) start

    unfoldable pub cell_at : Bool → ℕ → ℕ
    cell_at negative k = cell φ.kind (role_at φ k) (in_stretch k) (drifts φ.kind && eqb k drifts_to) negative (digit_at k)

  -- RULES 3.7: everything is suppressed
  unfoldable pub is_blank : ℕ → Bool
  is_blank t = all_suppressible && eqb t 0

  -- the field of a sign and an aligned magnitude: everything suppressed, or else by its digits, as many as the picture has (RULES 3.5)
  unfoldable pub field : Bool → ℕ → List ℕ
  field negative t =
      cond (is_blank t)
      (up_to (size φ) (λ k. suppressed φ.kind (role_at φ k)))
      (up_to (size φ) (λ k. cell_at (digits_of (digit_count φ) t) negative k))

-- the field of M at scale q
unfoldable pub edited : Rounding → Form → ℤ → ℕ → List ℕ
edited w φ m q = field φ (is_minus w φ m q) (aligned w φ m q)
