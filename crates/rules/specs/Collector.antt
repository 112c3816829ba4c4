-- RULES 7, the C calls: answers as one number, and rows as runs of bytes. Assumes nothing.
use Rattle.std.specs.Prelude.{◌≡◌, cond, List, [], ◌∷◌, ◌++◌, ℕ, zero, suc, ◌+◌, ◌-◌, ◌*◌, ◌/◌, ◌%◌, ◌^◌, ℤ, pos, negsuc, ltb, eqb, length, take, drop}
use Rattle.std.proofs.Math.Option.{Option}
use Rattle.rules.specs.declared.Answer.{Answer}
use Rattle.rules.specs.Numbers.{ROOM, LENGTH, when, unless, first_of}
use Rattle.rules.specs.Form.{size, meaning}
use Rattle.rules.specs.Shape.{verdict}
use Rattle.rules.specs.Read.{ReadsAs}
use Rattle.rules.specs.Answers.{answer, lent_after, unread, said}

-- RULES 7.2: number, field and length as one number
unfoldable pub packed : Answer → ℕ
packed r = r.number + 256 * r.field + 65536 * r.length

-- RULES 7.3: a number's 64 bits, and back; then the bits as bytes, the lowest first
unfoldable pub bits_of : ℤ → ℕ
bits_of (pos n) = n
bits_of (negsuc n) = 2 ^ 64 - suc n

unfoldable pub int_of : ℕ → ℤ
int_of u = cond (ltb u (2 ^ 63)) (pos u) (negsuc (2 ^ 64 - suc u))

unfoldable pub le_bytes : ℕ → ℕ → List ℕ
le_bytes zero u = []
le_bytes (suc n) u = u % 256 ∷ le_bytes n (u / 256)

unfoldable pub le_value : List ℕ → ℕ
le_value [] = 0
le_value (b ∷ bs) = le_value bs * 256 + b

-- the bytes of a number, and the number of the first eight bytes
unfoldable pub bytes_of : ℤ → List ℕ
bytes_of m = le_bytes 8 (bits_of m)

unfoldable pub int_in : List ℕ → ℤ
int_in run = int_of (le_value (take 8 run))

-- the bytes of a row, and the first n numbers of a run
unfoldable pub row_bytes : List ℤ → List ℕ
row_bytes [] = []
row_bytes (m ∷ ms) = bytes_of m ++ row_bytes ms

unfoldable pub row_in : ℕ → List ℕ → List ℤ
row_in zero run = []
row_in (suc n) run = int_in run ∷ row_in n (drop 8 run)

-- RULES 7.5, reading one field into a run: picture, 9, 7, 10
unfoldable pub read_run_number : List ℕ → List ℕ → ℕ → Option ℤ → ℕ
read_run_number t f room o =
    first_of (verdict t ∷ unless (eqb (length f) (size (meaning t))) LENGTH ∷ when (ltb room 8) ROOM ∷ unread o ∷ [])

-- the answer and the run are right for reading this field by this text
pub record ReadRunIs (t f run : List ℕ) (r : ℕ) (after : List ℕ) : Type 0 where
  pub says : Option ℤ
  pub reads : verdict t ≡ 0 → ReadsAs (meaning t) f says
  pub gives : r ≡ packed (answer (read_run_number t f (length run) says) 0 1 (said says))
  pub leaves : after ≡ lent_after (read_run_number t f (length run) says) (bytes_of (said says)) run
