-- RULES 2.5 to 2.14: each rule of shape under its name; the number of digits; the verdict on a picture text. Assumes nothing.
use Rattle.std.specs.Prelude.{ℕ, ◌+◌, Bool, true, false, cond, not, ◌&&◌, ◌||◌, List, [], ◌∷◌, leb, eqb, length, take, drop}
use Rattle.rules.specs.declared.Picture.{Picture}
use Rattle.rules.specs.Words.{one, times, any, count}
use Rattle.rules.specs.Numbers.{TEXT, SYMBOL, LONG, SHAPE, DIGITS, unless, first_of}
use Rattle.rules.specs.Text.{the_v, text_fits, is_spelled, symbols_of, most_symbols, room_of}
use Rattle.rules.specs.Roles.{is_nine, is_suppressible, is_digit, is_first_drifting, is_static, is_sign, drifts_sign}
use Rattle.rules.specs.Form.{Form, numbers, suppresses, form_of}

-- RULES 2.5: one V at most
unfoldable pub one_v : List ℕ → Bool
one_v s = leb (times the_v s) 1

-- how many of S, +, - and $ drift
unfoldable pub drifting : List ℕ → ℕ
drifting ns = one (suppresses 3 ns) + (one (suppresses 4 ns) + (one (suppresses 5 ns) + one (suppresses 6 ns)))

-- RULES 2.6: one of them at most
unfoldable pub one_drifts : List ℕ → Bool
one_drifts s = leb (drifting (numbers s)) 1

-- RULES 2.7: Z, * and what drifts exclude each other
unfoldable pub suppression_apart : List ℕ → Bool
suppression_apart s = leb (one (suppresses 1 (numbers s)) + (one (suppresses 2 (numbers s)) + one (leb 1 (drifting (numbers s))))) 1

-- RULES 2.8: behind a nine nothing is suppressible
unfoldable pub nines_last : List ℕ → Bool
nines_last [] = true
nines_last (r ∷ rs) = not (is_nine r && any is_suppressible rs) && nines_last rs

-- RULES 2.9: nothing behind V is suppressible, or there is no nine
unfoldable pub suppressed_places : Form → Bool
suppressed_places φ = not (any is_suppressible (drop φ.vee φ.roles)) || not (any is_nine φ.roles)

-- RULES 2.10: the signs that stand and the one that drifts are one at most
unfoldable pub one_sign : Form → Bool
one_sign φ = leb (count is_sign φ.roles + one (drifts_sign φ.kind)) 1

-- RULES 2.11: no static symbol stands where a digit or the first drifting symbol has gone before, `begun`, and a digit follows. So nothing is
-- asked where there is no digit.
unfoldable pub statics_placed : Bool → List ℕ → Bool
statics_placed begun [] = true
statics_placed begun (r ∷ rs) = not (is_static r && begun && any is_digit rs) && statics_placed (begun || is_digit r || is_first_drifting r) rs

-- RULES 2.12: the first drifting symbol doesn't stand behind V
unfoldable pub drifts_before_v : Form → Bool
drifts_before_v φ = not (any is_first_drifting (drop φ.vee φ.roles))

-- the rules that speak of digits, signs and static symbols
unfoldable pub form_shape : Form → Bool
form_shape φ =
    nines_last φ.roles && (suppressed_places φ && (one_sign φ && (statics_placed false φ.roles && drifts_before_v φ)))

-- all of them
unfoldable pub shape : List ℕ → Bool
shape s = one_v s && (one_drifts s && (suppression_apart s && form_shape (form_of s)))

-- RULES 2.13: from 1 digit to 18
abbrev pub most_digits : ℕ
most_digits = 18

abbrev pub digit_count : Form → ℕ
digit_count φ = count is_digit φ.roles

-- i, the digits before V
unfoldable pub whole : Form → ℕ
whole φ = count is_digit (take φ.vee φ.roles)

-- f, the digits behind it
unfoldable pub places : Form → ℕ
places φ = count is_digit (drop φ.vee φ.roles)

unfoldable pub digits_fit : Form → Bool
digits_fit φ = leb 1 (digit_count φ) && leb (digit_count φ) most_digits

-- RULES 2.14: the first refusal of a text; 0 where the picture is accepted
unfoldable pub verdict : List ℕ → ℕ
verdict t =
    first_of (
    unless (text_fits t) TEXT ∷
    unless (is_spelled t) SYMBOL ∷
    unless (leb (length (symbols_of t)) most_symbols) LONG ∷
    unless (shape (symbols_of t)) SHAPE ∷
    unless (digits_fit (form_of (symbols_of t))) DIGITS ∷ [])

-- RULES 1.6: the symbols in their room, which is empty where the text is refused
unfoldable pub picture_of : List ℕ → Picture
picture_of t = cond (eqb (verdict t) 0) (room_of (symbols_of t)) (room_of [])
