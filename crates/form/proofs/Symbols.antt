-- Symbols that are counted and looked for by the library's iterators. Assumes nothing.
use Prim.Native.Nat.{ℕ}
use mathlib.Core.Path.{◌≡◌, ap, fun_ext, ◌∙◌}
use mathlib.Core.List.{List}
use lib.Dec.{eqb}
use Rattle.std.specs.Prelude.{count_by}
use Rattle.std.specs.List.{position_or_len}
use Rattle.rules.specs.Words.{times, place}
use Rattle.rules.proofs.Library.{times_is, place_is}
use Rattle.rules.proofs.Logic.{eqb_swap}

pub tally_is : (x : ℕ) (xs : List ℕ) → count_by (λ y. eqb y x) xs ≡ times x xs
tally_is x xs = ap (λ p. count_by p xs) (fun_ext (λ y. eqb_swap y x)) ∙ times_is x xs

pub before_is : (x : ℕ) (xs : List ℕ) → position_or_len (λ y. eqb y x) xs ≡ place x xs
before_is x xs = ap (λ p. position_or_len p xs) (fun_ext (λ y. eqb_swap y x)) ∙ place_is x xs
