-- Beyond RULES: the rules of shape as the code runs them: a machine, whose phase holds what the roles to come
-- ask of those before, and a sum of weights, which holds what the rules count. The entries of both tables are
-- written down in src/tables.rt alone; here is the rule that they follow. proofs/Found.antt proves that by
-- these tables the code finds what the rules say. Assumes nothing.
use Rattle.std.specs.Prelude.{ℕ, suc, ◌+◌, ◌*◌, ◌/◌, ◌%◌, Bool, true, false, cond, not, ◌&&◌, ◌||◌, List, [], ◌∷◌, leb, ltb, eqb, get_or, take, drop}
use Rattle.rules.specs.Words.{one}
use Rattle.rules.specs.Search.{up_to}
use Rattle.rules.specs.Text.{most_symbols}
use Rattle.rules.specs.Roles.{drifts_sign, is_digit, is_first_drifting, is_nine, is_sign, is_static, is_suppressible, last_kind, role_limit}
use Rattle.rules.specs.Form.{Form, size}
use Rattle.rules.specs.Shape.{most_digits}
use Rattle.rules.specs.Good.{fits_room, plain_number}
use Rattle.shape.specs.declared.machine.Walked.{Walked}
use Rattle.shape.specs.declared.Judged.{Judged}

-- What the roles seen so far leave to ask.
pub record Seen : Type 0 where
  -- no role broke a rule that the machine holds
  pub kept : Bool
  -- the role just seen; before the first a nine, behind which all may come that may come first
  pub last : ℕ
  -- the first drifting symbol; under a kind that has none, from the start
  pub met : Bool
  -- a digit or the first drifting symbol, and a static symbol behind one
  pub begun : Bool
  pub astray : Bool
  pub nine : Bool

-- $, of a static role or of a kind
abbrev pub is_dollar : ℕ → Bool
is_dollar c = eqb c 6

-- the first letter of a mark: its second must follow
abbrev pub opens_mark : ℕ → Bool
opens_mark r = eqb r 11 || eqb r 13

-- the letters of a mark stand together, and nothing stands behind them
abbrev pub may_follow : ℕ → ℕ → Bool
may_follow last r = eqb last 11 && eqb r 12 || (eqb last 13 && eqb r 14 || plain_number last && (plain_number r || opens_mark r))

-- a 2 comes once, and before every 1
abbrev pub may_meet : Bool → ℕ → Bool
may_meet met r = not (is_first_drifting r && met) && not (is_suppressible r && not met)

-- the role r breaks no rule that the machine holds: all but those that count, and what they say of V
abbrev pub keeps : Seen → ℕ → Bool
keeps s r = may_meet s.met r && (not (is_suppressible r && s.nine) && (not (is_digit r && s.astray) && may_follow s.last r))

unfoldable pub seen_none : ℕ → Seen
seen_none kind = record { kept = true; last = 0; met = leb kind 2; begun = false; astray = false; nine = false }

unfoldable pub seen_next : Seen → ℕ → Seen
seen_next s r = record {
  kept = s.kept && keeps s r;
  last = r;
  met = s.met || is_first_drifting r;
  begun = s.begun || is_digit r || is_first_drifting r;
  astray = s.astray || is_static r && s.begun;
  nine = s.nine || is_nine r;
}

unfoldable pub seen_all : Seen → List ℕ → Seen
seen_all s [] = s
seen_all s (r ∷ rs) = seen_all (seen_next s r) rs

-- A row of the machine's table has a column for each role and one for all bytes that are none.
abbrev pub columns : ℕ
columns = suc role_limit

unfoldable pub column_of : ℕ → ℕ
column_of r = cond (ltb r role_limit) r role_limit

-- The phase: where its row begins. From `unbroken` on no rule is broken and no mark broken off; before come a
-- broken rule and the first letters of the marks.
abbrev pub unbroken : ℕ
unbroken = 57

unfoldable pub phase_of : Seen → ℕ
phase_of s =
    cond (not s.kept) 0
    (cond (eqb s.last 11) 19
    (cond (eqb s.last 13) 38
    (cond (not (plain_number s.last)) 57
    (cond s.met (cond s.astray 190 (cond s.nine 171 (cond s.begun 152 133))) (cond s.astray 114 (cond s.nine 95 76))))))

-- What a phase stands for: all that has been seen and leads there leaves the same to ask.
unfoldable pub seen_at : ℕ → Seen
seen_at p = record {
  kept = not (eqb p 0);
  last = cond (eqb p 19) 11 (cond (eqb p 38) 13 (cond (eqb p 57) 12 0));
  met = leb 133 p;
  begun = eqb p 95 || (eqb p 114 || leb 152 p);
  astray = eqb p 114 || eqb p 190;
  nine = eqb p 95 || (eqb p 114 || eqb p 171);
}

-- The table, row by row: where a role leads from what the row's phase stands for. No row begins past 190;
-- behind its row the table goes on with zeros, so that a step from any byte stays inside.
unfoldable pub entry : ℕ → ℕ
entry k = cond (leb k 208) (phase_of (seen_next (seen_at (k / columns * columns)) (k % columns))) 0

unfoldable pub machine : List ℕ
machine = up_to 285 entry

-- five counts in one sum, each below 128: digits, suppressible digits, signs, $, and first drifting symbols
abbrev pub summed : ℕ → ℕ → ℕ → ℕ → ℕ → ℕ
summed d b g e f = d + 128 * b + 16384 * g + 2097152 * e + 268435456 * f

abbrev pub weight_of : ℕ → ℕ
weight_of r = summed (one (is_digit r)) (one (is_suppressible r)) (one (is_sign r)) (one (is_dollar r)) (one (is_first_drifting r))

unfoldable pub weights : List ℕ
weights = up_to columns weight_of

-- The pass, by any two tables.
module _ (next weight : List ℕ) where
  unfoldable pub walked_next : Walked → ℕ → Walked
  walked_next w r = record { phase = get_or next (w.phase + column_of r) 0; sum = w.sum + get_or weight (column_of r) 0 }

  unfoldable pub walked_all : Walked → List ℕ → Walked
  walked_all w [] = w
  walked_all w (r ∷ rs) = walked_all (walked_next w r) rs

-- before the first role: a drifting sign or $ counts as one
unfoldable pub started : ℕ → Walked
started kind = record { phase = phase_of (seen_none kind); sum = 16384 * one (drifts_sign kind) + 2097152 * one (is_dollar kind) }

-- the counts that a sum holds
abbrev pub digits_in : ℕ → ℕ
digits_in sum = sum % 128

abbrev pub suppressible_in : ℕ → ℕ
suppressible_in sum = sum / 128 % 128

abbrev pub signs_in : ℕ → ℕ
signs_in sum = sum / 16384 % 128

abbrev pub dollars_in : ℕ → ℕ
dollars_in sum = sum / 2097152 % 128

abbrev pub drifting_in : ℕ → ℕ
drifting_in sum = sum / 268435456

-- some digit is suppressible exactly when the kind says so
abbrev pub born_out : ℕ → Bool → Bool
born_out kind borne = cond (eqb kind 0) (not borne) borne

-- what stands at V and at the end decides: neither breaks off a mark, and of suppressible digits and first
-- drifting symbols none is counted behind V that may not stand there
unfoldable pub found_in : ℕ → Walked → Walked → Judged
found_in kind at end = record {
  shaped =
      leb unbroken at.phase
      && (leb unbroken end.phase
      && (leb (signs_in end.sum) 1
      && (leb (dollars_in end.sum) 1
      && (born_out kind (leb 1 (suppressible_in end.sum))
      && ((eqb (suppressible_in end.sum) (suppressible_in at.sum) || eqb (suppressible_in end.sum) (digits_in end.sum))
      && eqb (drifting_in end.sum) (drifting_in at.sum))))));
  digits = leb 1 (digits_in end.sum) && leb (digits_in end.sum) most_digits;
}

-- what the pass by these tables finds of a form, and whether it then takes the form for that of an accepted
-- picture
module _ (next weight : List ℕ) (φ : Form) where
  abbrev pub walked_to : Walked
  walked_to = walked_all next weight (started φ.kind) (take φ.vee φ.roles)

  abbrev pub walked_on : Walked
  walked_on = walked_all next weight walked_to (drop φ.vee φ.roles)

  unfoldable pub found_by : Judged
  found_by = cond (leb (size φ) most_symbols) (found_in φ.kind walked_to walked_on) (record { shaped = false; digits = false })

  unfoldable pub good_by : Bool
  good_by = leb φ.kind last_kind && (fits_room (size φ) φ.vee && (found_by.shaped && found_by.digits))
