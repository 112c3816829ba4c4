-- Beyond RULES: the characters that positions print as one table, and what a call answers by any table.
-- proofs/ByTable.antt proves that by this one they are the characters of RULES 3.10 to 3.12. Assumes nothing.
use Rattle.std.specs.Prelude.{ℕ, ◌+◌, ◌*◌, Bool, true, false, cond, List, ◌++◌, ltb, get_or}
use Rattle.rules.specs.Edit.{figures, list_of, marks}

-- the marks with plus, the marks with minus, and the lists of digits
unfoldable pub characters : List ℕ
characters = marks false ++ (marks true ++ figures)

-- the first 15 roles have a column in each row
unfoldable pub mark_by : List ℕ → ℕ → Bool → ℕ
mark_by table r negative = cond (ltb r 15) (get_or table (cond negative 15 0 + r) 0) 0

-- behind both rows of marks, and in the three lists
unfoldable pub figure_by : List ℕ → ℕ → Bool → ℕ → ℕ
figure_by table r negative d = cond (ltb (10 * list_of r negative + d) 30) (get_or table (30 + (10 * list_of r negative + d)) 0) 0
