-- Beyond RULES: which forms accepted pictures have, as one test that needs no text, for a plan's fields. proofs/Forms.antt proves that a
-- form passes it exactly when some accepted text means that form. Assumes nothing.
use Rattle.std.specs.Prelude.{ℕ, zero, suc, ◌+◌, ◌-◌, Bool, true, cond, not, ◌&&◌, ◌||◌, List, [], ◌∷◌, leb, ltb, eqb}
use Rattle.rules.specs.Words.{one, times, any, same}
use Rattle.rules.specs.Text.{most_symbols}
use Rattle.rules.specs.Roles.{is_punched, is_suppressible, last_kind, role_limit}
use Rattle.rules.specs.Form.{Form, size, suppresses}
use Rattle.rules.specs.Shape.{form_shape, digits_fit}

-- the number of a symbol that may stand anywhere: no letter of a mark, and nothing past the roles
unfoldable pub plain_number : ℕ → Bool
plain_number c = leb c 10 || is_punched c && ltb c role_limit

-- how many of the kinds 1 to k suppress: RULES 2.6 and 2.7 say together that one of all does at most
unfoldable pub suppressing : ℕ → List ℕ → ℕ
suppressing zero ns = 0
suppressing (suc k) ns = one (suppresses (suc k) ns) + suppressing k ns

-- A 2 comes once and before every 1, under Z and * never: `met` as in roles_from.
unfoldable pub in_order : Bool → List ℕ → Bool
in_order met [] = true
in_order met (r ∷ rs) = cond (eqb r 2) (not met) (cond (eqb r 1) met true) && in_order (met || eqb r 2) rs

-- some digit is suppressible exactly when the kind says so
unfoldable pub bears : ℕ → List ℕ → Bool
bears k rs = cond (eqb k 0) (not (any is_suppressible rs)) (any is_suppressible rs)

-- $ occurs once, or drifts. Of S, + and - the rule on signs says so.
unfoldable pub one_dollar : Form → Bool
one_dollar φ = leb (times 6 φ.roles + one (eqb φ.kind 6)) 1

-- CR and DB stand last, and V not between their letters: v positions are left before V
unfoldable pub marks_last : ℕ → List ℕ → Bool
marks_last v [] = true
marks_last v (r ∷ rs) = (not (eqb v 1) && (same (r ∷ rs) (11 ∷ 12 ∷ []) || same (r ∷ rs) (13 ∷ 14 ∷ []))) || (plain_number r && marks_last (v - 1) rs)

-- at most 64 symbols, V counted where it has to be written
unfoldable pub fits_room : ℕ → ℕ → Bool
fits_room n v = leb v n && leb (n + one (ltb v n)) most_symbols

unfoldable pub well_made : Form → Bool
well_made φ =
    leb φ.kind last_kind && (in_order (leb φ.kind 2) φ.roles && (bears φ.kind φ.roles && (one_dollar φ && (marks_last φ.vee φ.roles && fits_room (size φ) φ.vee))))

unfoldable pub good : Form → Bool
good φ = well_made φ && (form_shape φ && digits_fit φ)
