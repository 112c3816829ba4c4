-- What is lent of a room is what it holds: the array has 64 places, and `take` past the end is the whole
-- list. Assumes nothing.
use Prim.Native.Nat.{ℕ, min}
use mathlib.Core.Path.{◌≡◌, sym, ◌∙◌}
use mathlib.Core.List.{List}
use native.Mathlib.Omega.{arith}
use borrow.Author.Tests.{leb-true, leb-false}
use lib.Dec.{leb}
use lib.ListN.{length, take}
use lib.Seq.{take_all, take-append_seam}
use Rattle.rules.specs.Form.{Form}
use Rattle.rules.proofs.Logic.{by_test}
use Rattle.form.specs.Rooms.{meaning_of, meant}

pub guarded : (n : ℕ) (xs : List ℕ) → length xs ≡ 64 → take (min n 64) xs ≡ take n xs
guarded n xs l =
    by_test (leb n 64)
    (λ t. let h = leb-true n 64 t in let q : min n 64 ≡ n = omega arith in rw q)
    (λ t. let h = leb-false n 64 t in take_all (min n 64) xs (omega arith) ∙ sym (take_all n xs (omega arith)))

-- the form whose rooms these are
pub meant_of : (φ : Form) → meant (meaning_of φ) ≡ φ
unfolding meant meaning_of
meant_of φ = rw (take-append_seam φ.roles)
