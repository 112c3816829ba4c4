-- The lengths that the calls on one picture answer are small. Assumes nothing.
use Prim.Native.Nat.{ℕ, zero, suc, ◌≤◌}
use mathlib.Core.Path.{◌≡◌, refl}
use mathlib.Core.List.{List}
use native.Mathlib.Omega.{arith}
use lib.IntN.{ℤ, pos}
use lib.ListN.{length}
use Rattle.rules.specs.declared.Answer.{Answer}
use Rattle.rules.specs.declared.Rounding.{Rounding}
use Rattle.rules.specs.Form.{size, meaning}
use Rattle.rules.specs.Shape.{verdict}
use Rattle.rules.specs.Answers.{answer, check_answer, edit_number, edit_answer}
use Rattle.rules.proofs.Firsts.{first_zero}
use Rattle.rules.proofs.Forms.{accepted_good, good_parts}

-- an answer's length is 0, or that of a success
success : (n f l : ℕ) (v : ℤ) (m : ℕ) → (n ≡ 0 → l ≤ m) → (answer n f l v).length ≤ m
success zero f l v m h = h refl
success (suc n) f l v m h = omega arith

accepted_size : (t : List ℕ) → verdict t ≡ 0 → size (meaning t) ≤ 64
accepted_size t v = omega (arith, (good_parts (meaning t) (accepted_good t v)).size)

pub check_length : (t : List ℕ) (r : Answer) → r ≡ check_answer t → r.length ≤ 65536
unfolding check_answer
check_length t r e = rw e (success (verdict t) 0 (size (meaning t)) (pos 0) 65536 (λ v. omega (arith, accepted_size t v)))

pub edit_length : (w : Rounding) (t : List ℕ) (m : ℤ) (q : ℕ) (out : List ℕ) (r : Answer) → r ≡ edit_answer w t m q out → r.length ≤ 65536
unfolding edit_answer edit_number
edit_length w t m q out r e = rw e (success (edit_number w t m q (length out)) 0 (size (meaning t)) (pos 0) 65536 (λ z. omega (arith, accepted_size t (first_zero _ _ z).0)))
