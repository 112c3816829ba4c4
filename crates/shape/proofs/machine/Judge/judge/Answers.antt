-- A form that is too long is refused at once. Else the two walks go over the roles before V and those behind
-- it. Assumes nothing.
use Prim.Native.Nat.{ℕ, min}
use mathlib.Core.Path.{◌≡◌}
use mathlib.Core.List.{List}
use borrow.Author.Tests.{le-leb}
use native.Mathlib.Omega.{arith}
use lib.ListN.{length, take, drop, drop_of_length-le}
use lib.Seq.{take_all}
use Rattle.shape.specs.Machine.{found_by, found_in}
use Rattle.shape.proofs.machine.Judge.judge.Goals as goal

-- the two parts of the roles that the code walks
parts_are : (rs : List ℕ) (vee : ℕ) → (take (min vee (length rs)) rs ≡ take vee rs) × (drop (min vee (length rs)) rs ≡ drop vee rs)
parts_are rs vee = (grind (arith, take_all), grind (arith, drop_of_length-le))

pub returns-then-n-gt-MOST_SYMBOLS : goal.returns-then-n-gt-MOST_SYMBOLS
unfolding found_by
returns-then-n-gt-MOST_SYMBOLS c = grind arith

pub returns : goal.returns
unfolding found_by found_in
returns c =
    let rs = c.args.form.roles.now in
    let parts = parts_are rs c.args.form.vee in
    rw (
      c.is_shaped.ensures,
      c.digits_fit.ensures,
      c.walk-end.ensures.0,
      c.walk-at.ensures.0,
      c.start.ensures.0,
      c.split_at.ensures.front,
      c.split_at.ensures.back,
      c.min.ensures,
      parts.0,
      parts.1,
      le-leb (length rs) 64 (omega arith),
    )
