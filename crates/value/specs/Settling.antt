-- What is settled of a value before its field is made: VALUE and SIZE in their order (RULES 6.6), the sign
-- and the aligned magnitude. A form with more digits than a picture may have takes no value. Assumes nothing.
use Rattle.std.specs.Prelude.{ℕ, ◌^◌, Bool, cond, not, ◌&&◌, ◌||◌, List, [], ◌∷◌, leb, ltb, ℤ, nat_abs, get_or, Result, Ok, Err}
use Rattle.rules.specs.declared.Refusal.{Refusal}
use Rattle.rules.specs.declared.Refusal.TheVariants.{Value, Size}
use Rattle.rules.specs.declared.Rounding.{Rounding}
use Rattle.rules.specs.Numbers.{VALUE, SIZE, when, unless, first_of}
use Rattle.rules.specs.Text.{most_symbols}
use Rattle.rules.specs.Form.{Form, size}
use Rattle.rules.specs.Shape.{most_digits, digit_count}
use Rattle.rules.specs.Edit.{in_range, aligned, has_sign, is_minus, is_negative, too_big}
use Rattle.decimal.specs.declared.sign.Signed.{Signed}

unfoldable pub settle_number : Rounding → Form → ℤ → ℕ → ℕ
settle_number w φ m q = first_of (unless (in_range m q) VALUE ∷ when (ltb most_digits (digit_count φ) || too_big w φ m q) SIZE ∷ [])

unfoldable pub settled_of : Rounding → Form → ℤ → ℕ → Result Signed Refusal
settled_of w φ m q =
    cond (in_range m q)
    (cond (ltb most_digits (digit_count φ) || too_big w φ m q)
    (Err Size)
    (Ok (record { negative = is_minus w φ m q; magnitude = aligned w φ m q })))
    (Err Value)

-- The number at the form's own scale, by a table of powers. SIZE: more positions or digits than a picture may
-- have, a magnitude with more digits than the form, or a minus for which there is no sign.
-- proofs/OwnScale.antt proves that by the powers of ten, and of a form with as many positions and digits as a
-- picture may have, it is the number that the rules give.
unfoldable pub own_over : List ℕ → Form → ℤ → Bool
own_over powers φ m =
    ltb most_symbols (size φ) || (ltb most_digits (digit_count φ) || (leb (get_or powers (digit_count φ) 0) (nat_abs m) || is_negative m && not (has_sign φ)))

unfoldable pub own_number : List ℕ → Form → ℤ → ℕ
own_number powers φ m = first_of (unless (ltb (nat_abs m) (10 ^ most_digits)) VALUE ∷ when (own_over powers φ m) SIZE ∷ [])
