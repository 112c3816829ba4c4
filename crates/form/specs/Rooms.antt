-- A form in rooms of fixed size, as the code has it, and how its positions are placed there. Assumes nothing.
use Rattle.std.specs.Prelude.{ℕ, ◌+◌, ◌-◌, Bool, cond, ◌||◌, List, [], ◌∷◌, ◌++◌, leb, eqb, length, get_or, take, replicate}
use Prim.Native.Char.{code}
use Rattle.std.proofs.Math.ListN.{set}
use Rattle.rules.specs.Words.{text}
use Rattle.rules.specs.Text.{most_symbols}
use Rattle.rules.specs.Form.{Form, formed, of_kind}
use Rattle.form.specs.declared.Placed.{Placed}
use Rattle.form.specs.declared.Meaning.{Meaning}

-- the symbol of each kind from 1 on
unfoldable pub kind_letter : ℕ → ℕ
kind_letter k = get_or (0 ∷ text "Z*S+-$") k 0

-- the number of a mark's first letter
unfoldable pub mark_number : ℕ → ℕ
mark_number b = cond (eqb b (code "C")) 11 13

-- the form with its roles in a room of 64, 0 behind them, and the form in such rooms
unfoldable pub meaning_of : Form → Meaning
meaning_of φ = record { roles = φ.roles ++ replicate (most_symbols - length φ.roles) 0; size = length φ.roles; vee = φ.vee; kind = φ.kind }

unfoldable pub meant : Meaning → Form
meant m = formed (take m.size m.roles) m.vee m.kind

-- the role of a position whose symbol has this number
unfoldable pub role_of : ℕ → Bool → ℕ → ℕ
role_of k met c = cond (of_kind k c) (cond met 1 2) c

-- no position yet, one more, whose symbol has this number, and all whose symbols have these
unfoldable pub begun : ℕ → ℕ → Placed
begun vee kind = record { form = meaning_of (formed [] vee kind); met = leb kind 2 }

unfoldable pub placed_in : Placed → ℕ → Placed
placed_in p c = record {
  form = record p.form { roles = set p.form.roles p.form.size (role_of p.form.kind p.met c); size = p.form.size + 1 };
  met = p.met || of_kind p.form.kind c;
}

unfoldable pub finished : Placed → List ℕ → Meaning
finished p [] = p.form
finished p (c ∷ cs) = finished (placed_in p c) cs
