-- What the calls of this crate answer, over all inputs: bytes that are no roles, a kind that is none, a V
-- past the end, a magnitude with more digits than the form, any table of characters. proofs/Field.antt proves
-- that by the table of crate roles a magnitude that fits has the field of RULES 3. Assumes nothing.
use Rattle.std.specs.Prelude.{Bool, cond, not, ◌&&◌, List, ℕ, suc, ◌+◌, ◌/◌, ◌%◌, ◌^◌, min, leb, ltb, eqb, get_or, drop}
use Prim.Native.Char.{code}
use Rattle.rules.specs.Words.{count}
use Rattle.rules.specs.Search.{first, last, up_to}
use Rattle.rules.specs.Roles.{drifts, is_b, is_bare, is_digit, is_nine, is_punched}
use Rattle.rules.specs.Form.{Form, role_at, size}
use Rattle.rules.specs.Shape.{places, whole}
use Rattle.rules.specs.Edit.{fill, has_sign, is_blank, opening, suppressed}
use Rattle.roles.specs.Table.{figure_by, mark_by}
use Rattle.field.specs.declared.Measured.{Measured}

unfoldable pub measure_of : Form → Measured
measure_of φ = record { whole = whole φ; places = places φ; signed = has_sign φ }

-- what a position prints by a table
unfoldable pub printed_by : List ℕ → ℕ → Bool → ℕ → ℕ
printed_by table r negative d = cond (is_bare r) (code "0" + d) (cond (is_punched r) (figure_by table r negative d) (mark_by table r negative))

-- what is left of a magnitude before position k, when the digits from there on have been taken off
unfoldable pub left_at : List ℕ → ℕ → ℕ → ℕ
left_at rs t k = t / 10 ^ count is_digit (drop k rs)

-- its last digit is due at the position before
unfoldable pub printed_at : List ℕ → List ℕ → Bool → ℕ → ℕ → ℕ
printed_at table rs negative t k = printed_by table (get_or rs k 0) negative (left_at rs t (suc k) % 10)

-- the first nine of the first n positions; n where there is none
unfoldable pub nine_in : List ℕ → ℕ → ℕ
nine_in rs n = first (λ k. is_nine (get_or rs k 0)) n

-- no position is hidden from V or the first nine on
unfoldable pub reach : Form → ℕ
reach φ = nine_in φ.roles (min φ.vee (size φ))

-- before that one is hidden, from the opening on, as long as nothing is left
unfoldable pub is_hidden : Form → ℕ → ℕ → Bool
is_hidden φ t k = leb (opening φ) k && (ltb k (reach φ) && eqb (left_at φ.roles t (suc k)) 0)

-- the last hidden position that is no B
unfoldable pub spot : Form → ℕ → ℕ
spot φ t = last (λ k. is_hidden φ t k && not (is_b (role_at φ k))) (size φ)

-- the character at one position of a field in which not everything is suppressed
unfoldable pub shown_at : List ℕ → Form → Bool → ℕ → ℕ → ℕ
shown_at table φ negative t k =
    cond (is_hidden φ t k)
    (cond (is_b (role_at φ k)) (code " ") (cond (drifts φ.kind && eqb k (spot φ t)) (mark_by table φ.kind negative) (fill φ.kind)))
    (printed_at table φ.roles negative t k)

unfoldable pub field_by : List ℕ → Form → Bool → ℕ → List ℕ
field_by table φ negative t =
    cond (is_blank φ t)
    (up_to (size φ) (λ k. suppressed φ.kind (role_at φ k)))
    (up_to (size φ) (shown_at table φ negative t))
