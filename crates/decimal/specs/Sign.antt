-- A signed number as a sign and a magnitude, over all inputs. Assumes nothing.
use Rattle.std.specs.Prelude.{cond, ◌^◌, ℤ, nat_abs, ltb, Option, Some, None}
use Rattle.rules.specs.Shape.{most_digits}
use Rattle.rules.specs.Edit.{is_negative}
use Rattle.decimal.specs.declared.sign.Signed.{Signed}

-- RULES 3.1: M is in range
unfoldable pub parts_of : ℤ → Option Signed
parts_of m = cond (ltb (nat_abs m) (10 ^ most_digits)) (Some (record { negative = is_negative m; magnitude = nat_abs m })) None
