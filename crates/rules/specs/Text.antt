-- RULES 1, from text to symbols: the bytes of a picture text and the symbols that they stand for. Assumes nothing.
use Rattle.std.specs.Prelude.{ℕ, ◌+◌, ◌-◌, ◌*◌, Bool, true, false, cond, ◌&&◌, ◌||◌, List, [], ◌∷◌, ◌++◌, leb, eqb, length, take, replicate}
use Prim.Native.Char.{code}
use Rattle.std.proofs.Math.Option.{Option, none, some}
use Rattle.rules.specs.declared.Picture.{Picture}
use Rattle.rules.specs.declared.Mode.{Mode}
use Rattle.rules.specs.declared.Mode.TheVariants.{Plain, Opened, OneDigit, TwoDigits, Closed, Spoilt}
use Rattle.rules.specs.Words.{text, has, same}

abbrev pub the_v : ℕ
the_v = code "V"

-- RULES 1.1: from 1 byte to 128
abbrev pub most_text : ℕ
most_text = 128

unfoldable pub text_fits : List ℕ → Bool
text_fits t = leb 1 (length t) && leb (length t) most_text

-- RULES 1.2: the symbols of one byte
abbrev pub symbols : List ℕ
symbols = text "9Z*V,./BS+-$TIR"

abbrev pub is_symbol : ℕ → Bool
is_symbol b = has b symbols

-- RULES 1.3: these bytes are a mark, and nothing stands behind it
abbrev pub is_mark : List ℕ → Bool
is_mark t = same t (text "CR") || same t (text "DB")

-- RULES 1.4: what a factor may stand before, and how many copies it may ask for
abbrev pub repeatable : List ℕ
repeatable = text "9Z*,./BS+-$TI"

abbrev pub repeats : ℕ → Bool
repeats b = has b repeatable

abbrev pub most_copies : ℕ
most_copies = 64

abbrev pub is_decimal : ℕ → Bool
is_decimal b = leb (code "0") b && leb b (code "9")

abbrev pub worth : ℕ → ℕ
worth b = b - code "0"

-- no factor is being read
abbrev pub is_plain : Mode → Bool
is_plain Plain = true
is_plain Opened = false
is_plain (OneDigit n) = false
is_plain (TwoDigits n) = false
is_plain (Closed n) = false
is_plain Spoilt = false

-- a factor n may stand before this byte
abbrev pub allows : ℕ → ℕ → Bool
allows n b = repeats b && (leb 1 n && leb n most_copies)

-- the mode after one byte more
unfoldable pub next : Mode → ℕ → Mode
next Plain b = cond (eqb b (code "(")) Opened (cond (is_symbol b) Plain Spoilt)
next Opened b = cond (is_decimal b) (OneDigit (worth b)) Spoilt
next (OneDigit n) b = cond (eqb b (code ")")) (Closed n) (cond (is_decimal b) (TwoDigits (n * 10 + worth b)) Spoilt)
next (TwoDigits n) b = cond (eqb b (code ")")) (Closed n) Spoilt
next (Closed n) b = cond (allows n b) Plain Spoilt
next Spoilt b = Spoilt

-- how many symbols that byte gives
unfoldable pub copies : Mode → ℕ → ℕ
copies Plain b = cond (eqb b (code "(")) 0 1
copies Opened b = 0
copies (OneDigit n) b = 0
copies (TwoDigits n) b = 0
copies (Closed n) b = cond (allows n b) n 0
copies Spoilt b = 0

-- a text may end only where no factor waits for its symbol
abbrev pub ended : Mode → Option (List ℕ)
ended Plain = some []
ended Opened = none
ended (OneDigit n) = none
ended (TwoDigits n) = none
ended (Closed n) = none
ended Spoilt = none

abbrev pub onto : List ℕ → Option (List ℕ) → Option (List ℕ)
onto xs none = none
onto xs (some ys) = some (xs ++ ys)

-- The end is looked at first (RULES 1.3): a text that ends in the letters DB or CR ends in the mark.
unfoldable pub expand_from : Mode → List ℕ → Option (List ℕ)
expand_from m [] = ended m
expand_from m (b ∷ s) =
    let rest = onto (replicate (copies m b) b) (expand_from (next m b) s) in
    cond (is_plain m && is_mark (b ∷ s)) (some (b ∷ s)) rest

-- the symbols of a text, or none where a byte or a factor isn't allowed
abbrev pub expand : List ℕ → Option (List ℕ)
expand t = expand_from Plain t

-- every byte and every factor is allowed
abbrev pub is_some : Option (List ℕ) → Bool
is_some none = false
is_some (some s) = true

abbrev pub is_spelled : List ℕ → Bool
is_spelled t = is_some (expand t)

abbrev pub or_none : Option (List ℕ) → List ℕ
or_none none = []
or_none (some s) = s

-- RULES 1.5, the symbols written out; a mark stays its two letters
abbrev pub symbols_of : List ℕ → List ℕ
symbols_of t = or_none (expand t)

-- RULES 1.5: no more symbols than these, V one of them and a mark two
abbrev pub most_symbols : ℕ
most_symbols = 64

-- RULES 1.6: the symbols in their room, 0 behind them
unfoldable pub room_of : List ℕ → Picture
room_of s = record { symbols = s ++ replicate (most_symbols - length s) 0; count = length s }

-- the symbols in such a room
unfoldable pub held_in : Picture → List ℕ
held_in p = take p.count p.symbols
