-- RULES 2.3 and 2.4: what a position of a picture is: its role, the byte that a plan stores for it, and the words for roles. Assumes nothing.
--   role   0 9    1 Z * and what drifts behind its first    2 that first    3 S   4 +   5 -   6 $    7 ,   8 .   9 /   10 B    11 12 CR    13 14 DB
--          15 T   16 I   17 R
-- And what a picture has of suppression: its kind.
--   kind   0 none    1 Z    2 *    3 S   4 +   5 -   6 $, drifting
use Rattle.std.specs.Prelude.{ℕ, Bool, not, ◌&&◌, ◌||◌, leb, eqb}

-- every role is below this
abbrev pub role_limit : ℕ
role_limit = 18

-- RULES 2.3: T, I and R, the last of the roles; what is past them counts as one, and `plain_number` refuses it
unfoldable pub is_punched : ℕ → Bool
is_punched r = leb 15 r

-- RULES 2.3: a digit is a nine or suppressible
unfoldable pub is_nine : ℕ → Bool
is_nine r = eqb r 0 || is_punched r

unfoldable pub is_suppressible : ℕ → Bool
is_suppressible r = eqb r 1

unfoldable pub is_digit : ℕ → Bool
is_digit r = is_nine r || is_suppressible r

-- a digit over which nothing is punched
unfoldable pub is_bare : ℕ → Bool
is_bare r = is_digit r && not (is_punched r)

-- the first drifting symbol, which is no digit
unfoldable pub is_first_drifting : ℕ → Bool
is_first_drifting r = eqb r 2

-- RULES 3.9: where the stretch may begin
unfoldable pub opens : ℕ → Bool
opens r = is_suppressible r || is_first_drifting r

-- RULES 2.2: S, +, - or $ that stands once
unfoldable pub is_static : ℕ → Bool
is_static r = leb 3 r && leb r 6

-- RULES 3.6: the insertion B; the second letter of DB has a role of its own
unfoldable pub is_b : ℕ → Bool
is_b r = eqb r 10

-- RULES 2.10: a sign: S, +, -, CR and DB by their first letters, and what is punched over a digit
unfoldable pub is_sign : ℕ → Bool
is_sign r = leb 3 r && leb r 5 || (eqb r 11 || (eqb r 13 || is_punched r))

-- a symbol drifts in a picture of this kind, and it is a sign
unfoldable pub drifts : ℕ → Bool
drifts kind = leb 3 kind && leb kind 6

unfoldable pub drifts_sign : ℕ → Bool
drifts_sign kind = leb 3 kind && leb kind 5

-- the kinds are 0 to this
abbrev pub last_kind : ℕ
last_kind = 6
