-- What the code computes of a text: the symbols in their room, or the refusal. Assumes nothing.
use Rattle.std.specs.Prelude.{ℕ, ◌+◌, cond, List, [], ◌∷◌, leb, length, Result, Ok, Err}
use Rattle.std.proofs.lemmas.List.Edits.{sets}
use Rattle.std.proofs.Math.Option.{Option, none, some}
use Rattle.rules.specs.Numbers.{TEXT, SYMBOL, LONG, unless, first_of}
use Rattle.rules.specs.declared.Picture.{Picture}
use Rattle.rules.specs.declared.Refusal.{Refusal}
use Rattle.rules.specs.declared.Refusal.TheVariants.{Text, Symbol, Long}
use Rattle.rules.specs.Text.{text_fits, expand, is_spelled, symbols_of, most_symbols, room_of}

-- the first three tests of a picture text, as the number of the refusal, and with the symbols in their room,
-- where all hold
unfoldable pub expand_number : List ℕ → ℕ
expand_number t =
    first_of (
    unless (text_fits t) TEXT ∷
    unless (is_spelled t) SYMBOL ∷
    unless (leb (length (symbols_of t)) most_symbols) LONG ∷ [])

unfoldable pub expanded_of : List ℕ → Result Picture Refusal
expanded_of t =
    let counted = cond (leb (length (symbols_of t)) most_symbols) (Ok (room_of (symbols_of t))) (Err Long) in
    let spelled = cond (is_spelled t) counted (Err Symbol) in
    cond (text_fits t) spelled (Err Text)

-- a room with these symbols behind those that it has; what falls outside is counted and dropped
unfoldable pub filled : Picture → List ℕ → Picture
filled p xs = record { symbols = sets p.symbols p.count xs; count = p.count + length xs }

-- the same with what is left of a text, where it is allowed
abbrev pub filled_by : Picture → Option (List ℕ) → Result Picture Refusal
filled_by p none = Err Symbol
filled_by p (some xs) = Ok (filled p xs)

unfoldable pub spelled_of : List ℕ → Result Picture Refusal
spelled_of t = filled_by (room_of []) (expand t)
