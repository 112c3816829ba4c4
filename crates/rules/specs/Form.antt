-- RULES 2.1, 2.2 and 2.4: what a picture means: the role of each position, where V stands, and the kind. Assumes nothing.
use Rattle.std.specs.Prelude.{ℕ, zero, suc, ◌+◌, Bool, cond, ◌&&◌, ◌||◌, List, [], ◌∷◌, leb, ltb, eqb, length, get_or}
use Prim.Native.Char.{code}
use Rattle.rules.specs.declared.FormRef.{FormRef}
use Rattle.rules.specs.Words.{text, has, times, place}
use Rattle.rules.specs.Text.{the_v, is_mark, symbols_of}
use Rattle.rules.specs.Roles.{last_kind}

pub record Form : Type 0 where
  -- one for each position, from the left
  pub roles : List ℕ
  -- the positions before V; all of them if there is no V
  pub vee : ℕ
  pub kind : ℕ

-- the form of these parts
abbrev pub formed : List ℕ → ℕ → ℕ → Form
formed roles vee kind = record { roles = roles; vee = vee; kind = kind }

-- the form that is lent as its parts
abbrev pub form_in : FormRef → Form
form_in φ = formed φ.roles.now φ.vee φ.kind

-- RULES 2.1: n
abbrev pub size : Form → ℕ
size φ = length φ.roles

abbrev pub role_at : Form → ℕ → ℕ
role_at φ k = get_or φ.roles k 0

-- The symbols but V, the marks and those that are punched. A symbol's place here is its number: for Z * S + - $ that is its kind, for all but Z and * its role
-- where it is no drifting symbol. Then come the numbers of the marks' letters, and behind them those that are punched.
abbrev pub numbered : List ℕ
numbered = text "9Z*S+-$,./B"

abbrev pub punched_letters : List ℕ
punched_letters = text "TIR"

unfoldable pub number : ℕ → ℕ
number b = cond (has b numbered) (place b numbered) (15 + place b punched_letters)

-- the numbers of a picture's positions
unfoldable pub numbers : List ℕ → List ℕ
numbers [] = []
numbers (b ∷ s) =
    let rest = numbers s in
    let here = number b ∷ rest in
    cond (is_mark (b ∷ s)) (cond (eqb b (code "C")) (11 ∷ 12 ∷ []) (13 ∷ 14 ∷ []))
    (cond (eqb b the_v) rest here)

-- RULES 2.2: a symbol of kind k makes positions suppressible: Z and * wherever they stand; S, +, - and $ where they stand twice, and so drift
unfoldable pub suppresses : ℕ → List ℕ → Bool
suppresses k ns = leb (cond (leb k 2) 1 2) (times k ns)

-- the kind of these numbers: the last of the kinds 1 to k that suppresses, 0 where none does. An accepted picture has at most one.
unfoldable pub kind_up_to : ℕ → List ℕ → ℕ
kind_up_to zero ns = 0
kind_up_to (suc k) ns = cond (suppresses (suc k) ns) (suc k) (kind_up_to k ns)

abbrev pub kind_of : List ℕ → ℕ
kind_of ns = kind_up_to last_kind ns

-- this position has the symbol of kind k
abbrev pub of_kind : ℕ → ℕ → Bool
of_kind k c = ltb 0 k && eqb c k

-- The symbol of the kind is a suppressible digit, but for the first drifting one: `met` says that it has gone before, which under Z and *
-- holds from the start. The number of any other symbol is its role.
unfoldable pub roles_from : ℕ → Bool → List ℕ → List ℕ
roles_from k met [] = []
roles_from k met (c ∷ cs) = cond (of_kind k c) (cond met 1 2) c ∷ roles_from k (met || of_kind k c) cs

-- RULES 2.4: the form of these symbols
unfoldable pub form_of : List ℕ → Form
form_of s = record {
  roles = roles_from (kind_of (numbers s)) (leb (kind_of (numbers s)) 2) (numbers s);
  vee = place the_v s;
  kind = kind_of (numbers s);
}

-- the form that a picture text stands for
unfoldable pub meaning : List ℕ → Form
meaning t = form_of (symbols_of t)
