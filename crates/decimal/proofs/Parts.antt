-- The sign and magnitude of a number by cases: what a caller has of the answer. Assumes nothing.
use mathlib.Core.Path.{◌≡◌, sym, ◌∙◌}
use mathlib.Core.Bool.{false}
use Prim.Native.Nat.{ℕ, ◌^◌, ◌≤◌, ◌<◌}
use lib.IntN.{ℤ, nat_abs}
use lib.Dec.{leb, ltb}
use borrow.Author.Tests.{ltb-true, lt-ltb, le-ltb}
use Rattle.std.specs.Prelude.{Some, None}
use Rattle.std.proofs.lemmas.Option.{cond_some, none-some}
use Rattle.rules.specs.Shape.{most_digits}
use Rattle.rules.specs.Edit.{most_scale, in_range, is_negative}
use Rattle.rules.proofs.Logic.{by_test}
use Rattle.decimal.specs.declared.sign.Signed.{Signed}
use Rattle.decimal.specs.Sign.{parts_of}

-- the sign and magnitude of any number
abbrev pub signed_of : ℤ → Signed
signed_of z = record { negative = is_negative z; magnitude = nat_abs z }

module _ (z : ℤ) where
  pub parts_out : 10 ^ most_digits ≤ nat_abs z → parts_of z ≡ None
  unfolding parts_of
  parts_out h = rw (le-ltb (nat_abs z) (10 ^ most_digits) h)

  pub parts_in : nat_abs z < 10 ^ most_digits → parts_of z ≡ Some (signed_of z)
  unfolding parts_of
  parts_in h = rw (lt-ltb (nat_abs z) (10 ^ most_digits) h)

  -- A number is taken exactly where it is in range.
  pub parts_none : parts_of z ≡ None → (q : ℕ) → in_range z q ≡ false
  unfolding in_range
  parts_none e q =
      by_test (ltb (nat_abs z) (10 ^ most_digits))
      (λ l. absurd (none-some (signed_of z) (sym e ∙ parts_in (ltb-true (nat_abs z) (10 ^ most_digits) l))))
      (λ l. rw l)

  pub parts_some : (s : Signed) → parts_of z ≡ Some s → (nat_abs z < 10 ^ most_digits) × (s ≡ signed_of z)
  unfolding parts_of
  parts_some s e = let c = cond_some _ _ _ e in (ltb-true _ _ c.0, sym c.1)

  pub parts_range : (s : Signed) → parts_of z ≡ Some s → (q : ℕ) → in_range z q ≡ leb q most_scale
  unfolding in_range
  parts_range s e q = rw (lt-ltb (nat_abs z) (10 ^ most_digits) (parts_some s e).0)
