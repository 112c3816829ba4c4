-- What is settled at each way through `settle`. Assumes nothing.
use Prim.Native.Nat.{ℕ, ◌+◌, ◌^◌, ◌<◌, ◌≤◌}
use mathlib.Core.Path.{◌≡◌, sym, ◌∙◌}
use mathlib.Core.Bool.{Bool, true, false, not, ◌&&◌, ◌||◌}
use borrow.Author.Tests.{lt-leb, le-leb, le-ltb, ltb-false}
use lib.Dec.{ltb, eqb}
use lib.IntN.{ℤ, nat_abs}
use Rattle.std.specs.Prelude.{Some, None, Ok, Err}
use Rattle.rules.specs.declared.Refusal.TheVariants.{Value, Size}
use Rattle.rules.specs.declared.Rounding.{Rounding}
use Rattle.rules.specs.Form.{Form}
use Rattle.rules.specs.Shape.{most_digits, digit_count, whole, places}
use Rattle.rules.specs.Edit.{most_scale, in_range, aligned, is_minus, too_big}
use Rattle.rules.proofs.Logic.{by_test}
use Rattle.rules.proofs.Exact.{digit_sum}
use Rattle.decimal.specs.declared.sign.Signed.{Signed}
use Rattle.decimal.specs.Sign.{parts_of}
use Rattle.decimal.specs.Align.{aligned_of}
use Rattle.decimal.proofs.Parts.{parts_none, parts_some, parts_range}
use Rattle.decimal.proofs.Aligning.{aligned_none, aligned_some}
use Rattle.field.specs.declared.Measured.{Measured}
use Rattle.field.specs.Results.{measure_of}
use Rattle.value.specs.Settling.{settled_of}

module _ (w : Rounding) (φ : Form) (m : ℤ) (q : ℕ) where
  pub out_of_range : parts_of m ≡ None → settled_of w φ m q ≡ Err Value
  unfolding settled_of
  out_of_range e = rw (parts_none m e q)

  module _ (s : Signed) (e : parts_of m ≡ Some s) where
    pub out_of_scale : most_scale < q → settled_of w φ m q ≡ Err Value
    unfolding settled_of
    out_of_scale l = rw (parts_range m s e q, lt-leb q most_scale l)

    module _ (l : q ≤ most_scale) (d : Measured) (x : d ≡ measure_of φ) where
      is_in_range : in_range m q ≡ true
      is_in_range = rw (parts_range m s e q, le-leb q most_scale l)

      -- what is aligned is M's magnitude, by the form's digits before and after V
      form_aligned : aligned_of w s.magnitude q d.whole d.places ≡ aligned_of w (nat_abs m) q (whole φ) (places φ)
      unfolding measure_of
      form_aligned = rw (x, (parts_some m s e).1)

      -- SIZE: too many digits, or too few for the value
      pub too_many : aligned_of w s.magnitude q d.whole d.places ≡ None → settled_of w φ m q ≡ Err Size
      unfolding settled_of too_big aligned
      too_many n =
          rw is_in_range
          (by_test (ltb most_digits (digit_count φ)) (λ k. rw k)
          (λ k.
          let r : whole φ + places φ ≤ most_digits = rw (digit_sum φ) (ltb-false most_digits (digit_count φ) k) in
          let o : 10 ^ digit_count φ ≤ aligned w φ m q = rw (← digit_sum φ) (aligned_none w (nat_abs m) q (whole φ) (places φ) (parts_some m s e).0 l r (sym form_aligned ∙ n)) in
          rw (k, le-leb (10 ^ digit_count φ) (aligned w φ m q) o)))

      module _ (t : ℕ) (a : aligned_of w s.magnitude q d.whole d.places ≡ Some t) (neg : Bool) (g : neg ≡ (s.negative && not (eqb t 0))) where
        parts : (whole φ + places φ ≤ most_digits) × (t ≡ aligned w φ m q) × (t < 10 ^ (whole φ + places φ))
        unfolding aligned
        parts = aligned_some w (nat_abs m) q (whole φ) (places φ) t (sym form_aligned ∙ a)

        minus_is : neg ≡ is_minus w φ m q
        unfolding is_minus
        minus_is = g ∙ rw (parts.1, (parts_some m s e).1)

        -- SIZE then is a minus without a sign
        big_is : (ltb most_digits (digit_count φ) || too_big w φ m q) ≡ (neg && not d.signed)
        unfolding too_big measure_of
        big_is =
            let narrow : digit_count φ ≤ most_digits = rw (← digit_sum φ) parts.0 in
            let small : aligned w φ m q < 10 ^ digit_count φ = rw (← parts.1, ← digit_sum φ) parts.2 in
            rw (le-ltb most_digits (digit_count φ) narrow, lt-leb (10 ^ digit_count φ) (aligned w φ m q) small, minus_is, x)

        pub no_sign : (neg && not d.signed) ≡ true → settled_of w φ m q ≡ Err Size
        unfolding settled_of
        no_sign z = rw (is_in_range, big_is, z)

        pub settles : (neg && not d.signed) ≡ false → settled_of w φ m q ≡ Ok (record { negative = neg; magnitude = t })
        unfolding settled_of
        settles z = rw (is_in_range, big_is, z, minus_is, parts.1)

pub ruleset ways = (out_of_range, out_of_scale, too_many, no_sign, settles)
