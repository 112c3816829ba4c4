-- RULES 3.2: a magnitude moved from one scale to another, where i + f digits hold what comes out (3.4).
-- Assumes nothing.
use Rattle.std.specs.Prelude.{cond, ◌&&◌, ℕ, ◌+◌, ◌*◌, ◌^◌, leb, ltb, Option, Some, None}
use Rattle.rules.specs.declared.Rounding.{Rounding}
use Rattle.rules.specs.Shape.{most_digits}
use Rattle.rules.specs.Edit.{most_scale, quotient}

unfoldable pub aligned_of : Rounding → ℕ → ℕ → ℕ → ℕ → Option ℕ
aligned_of w m q i f =
    let t = quotient w (m * 10 ^ f) (10 ^ q) in
    cond (ltb m (10 ^ most_digits) && (leb q most_scale && (leb (i + f) most_digits && ltb t (10 ^ (i + f))))) (Some t) None
