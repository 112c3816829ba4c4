-- A form written back as a picture text: each role's symbol under the kind, and V before position vee, or left out where no position stands
-- there. The witness that a good form is some accepted text's. Assumes nothing.
use Prim.Native.Nat.{ℕ, zero, suc}
use Prim.Native.Char.{code}
use mathlib.Core.Bool.{cond, ◌||◌}
use mathlib.Core.List.{List, [], ◌∷◌, ◌++◌, map}
use lib.Dec.{eqb}
use lib.ListN.{get_or}
use Rattle.rules.specs.Words.{text}
use Rattle.rules.specs.Text.{the_v}
use Rattle.rules.specs.Form.{Form}

-- the number of a role's symbol
abbrev pub number_of : ℕ → ℕ → ℕ
number_of k r = cond (eqb r 1 || eqb r 2) k r

-- the letters of the numbers from 0 on, those of the marks among them
abbrev pub letters : List ℕ
letters = text "9Z*S+-$,./BCRDBTIR"

abbrev pub letter_of : ℕ → ℕ
letter_of c = get_or letters c 0

unfoldable pub with_v : ℕ → List ℕ → List ℕ
with_v v [] = []
with_v zero (b ∷ s) = the_v ∷ b ∷ s
with_v (suc v) (b ∷ s) = b ∷ with_v v s

unfoldable pub write_back : Form → List ℕ
write_back φ = with_v φ.vee (map letter_of (map (number_of φ.kind) φ.roles))

-- a layout that has these forms
unfoldable pub layout_of : List Form → List ℕ
layout_of [] = []
layout_of (φ ∷ φs) = write_back φ ++ (code ";" ∷ layout_of φs)
