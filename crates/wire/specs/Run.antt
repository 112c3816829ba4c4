-- A number in a run of bytes: its eight bytes at an offset, and back, over all inputs. Assumes nothing.
use Rattle.std.specs.Prelude.{cond, List, ◌++◌, ℕ, ◌+◌, ◌*◌, ℤ, pos, leb, length, take, drop}
use Rattle.rules.specs.Collector.{bytes_of, int_in, row_bytes, row_in}

-- nothing is written where eight bytes do not fit
unfoldable pub put_at : List ℕ → ℕ → ℤ → List ℕ
put_at run at m = cond (leb (at + 8) (length run)) (take at run ++ (bytes_of m ++ drop (at + 8) run)) run

unfoldable pub get_at : List ℕ → ℕ → ℤ
get_at run at = cond (leb (at + 8) (length run)) (int_in (drop at run)) (pos 0)

-- a whole row, where its bytes fit
unfoldable pub put_row : List ℕ → List ℤ → List ℕ
put_row run ms = cond (leb (8 * length ms) (length run)) (row_bytes ms ++ drop (8 * length ms) run) run

-- as many numbers as the row has places, where there are bytes enough
unfoldable pub get_row : List ℕ → List ℤ → List ℤ
get_row run row = cond (leb (8 * length row) (length run)) (row_in (length row) run) row
