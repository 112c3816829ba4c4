-- `measure`: V's place may lie past the positions. Assumes nothing.
use mathlib.Core.Path.{◌≡◌, refl}
use mathlib.Core.List.{List}
use Prim.Native.Nat.{ℕ, min}
use native.Mathlib.Omega.{arith}
use lib.ListN.{drop, length}
use Rattle.rules.specs.Shape.{places, whole}
use Rattle.field.specs.Results.{measure_of}
use Rattle.std.proofs.lemmas.Grind.{common_steps}
use Rattle.std.proofs.lemmas.List.{take_min}
use Rattle.field.proofs.measure.Goals as goal

drop_min : (rs : List ℕ) (v : ℕ) → drop (min v (length rs)) rs ≡ drop v rs
drop_min rs v = grind (arith, common_steps)

pub returns : goal.returns
unfolding measure_of whole places
returns c =
    let φ = c.args.form in
    rw (c.digits_in.ensures, c.digits_in-2.ensures, c.is_signed.ensures, c.split_at.ensures.front, c.split_at.ensures.back, c.min-before.ensures, take_min φ.vee φ.roles.now, drop_min φ.roles.now φ.vee) refl
