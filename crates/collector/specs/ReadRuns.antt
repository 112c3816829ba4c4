-- RULES 7.5: reading one field into a run. Assumes nothing.
use Rattle.std.specs.Prelude.{cond, ℕ, ltb, ℤ, Result, Ok, Err}
use Rattle.rules.specs.declared.Refusal.{Refusal}
use Rattle.rules.specs.declared.Refusal.TheVariants.{Room, Conversion}

-- what a reading comes to where there are so many bytes for its value: ROOM comes before CONVERSION and
-- behind the other refusals
abbrev pub with_room : ℕ → Result ℤ Refusal → Result ℤ Refusal
with_room room (Ok m) = cond (ltb room 8) (Err Room) (Ok m)
with_room room (Err Conversion) = cond (ltb room 8) (Err Room) (Err Conversion)
with_room room outcome = outcome
