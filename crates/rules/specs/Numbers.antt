-- RULES 6.1: the numbers that come back by their names, and how the first of several refusals is found. Assumes nothing.
use Rattle.std.specs.Prelude.{ℕ, zero, suc, Bool, cond, List, [], ◌∷◌}

-- a picture text is empty or has over 128 bytes
abbrev pub TEXT : ℕ
TEXT = 1

-- a byte or a factor is none
abbrev pub SYMBOL : ℕ
SYMBOL = 2

-- there are over 64 symbols
abbrev pub LONG : ℕ
LONG = 3

-- the symbols don't go together
abbrev pub SHAPE : ℕ
SHAPE = 4

-- there are no digits or over 18
abbrev pub DIGITS : ℕ
DIGITS = 5

-- M or q is out of its range
abbrev pub VALUE : ℕ
VALUE = 6

-- less memory is lent than the outcome needs
abbrev pub ROOM : ℕ
ROOM = 7

-- the value doesn't fit the picture, or a sum is too big for the totals
abbrev pub SIZE : ℕ
SIZE = 8

-- a field or record has another length, or a row to be edited another number of places; a batch is too long or ends within a record, or a place in it
-- is none
abbrev pub LENGTH : ℕ
LENGTH = 9

-- the field says no value
abbrev pub CONVERSION : ℕ
CONVERSION = 10

-- a layout is empty, too long, without its last `;`, or of over 32 pictures
abbrev pub COUNT : ℕ
COUNT = 11

-- the bytes are no accepted layout's plan
abbrev pub PLAN : ℕ
PLAN = 12

-- more than 65,536 bytes are to be listed or totalled
abbrev pub INPUT : ℕ
INPUT = 13

-- a totals sheet has 9,000 records or more
abbrev pub FULL : ℕ
FULL = 14

-- A test that may refuse gives its number, or 0: `when` where what is refused is said, `unless` where what is asked is said.
abbrev pub when : Bool → ℕ → ℕ
when b n = cond b n 0

abbrev pub unless : Bool → ℕ → ℕ
unless b n = cond b 0 n

-- RULES 6.6: of several refusals the first counts; 0 where there is none
unfoldable pub first_of : List ℕ → ℕ
first_of [] = 0
first_of (zero ∷ ns) = first_of ns
first_of (suc n ∷ ns) = suc n

-- RULES 6.3: the first bad field, from 1, by the number that each field gets; 0 where none is bad
abbrev pub later : ℕ → ℕ
later zero = 0
later (suc k) = suc (suc k)

unfoldable pub bad_field : List ℕ → ℕ
bad_field [] = 0
bad_field (zero ∷ ns) = later (bad_field ns)
bad_field (suc n ∷ ns) = 1
