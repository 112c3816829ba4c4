-- RULES 6.1 and 6.2: a refusal and a call's result as the numbers that come back. Assumes nothing.
use Rattle.std.specs.Prelude.{ℕ, ℤ, pos, Result, Ok, Err}
use Rattle.rules.specs.declared.Answer.{Answer}
use Rattle.rules.specs.declared.Refusal.{Refusal}
use Rattle.rules.specs.declared.Refusal.TheVariants.{Text, Symbol, Long, Shape, Digits, Value, Room, Size, Length, Conversion, Count, Plan, Input, Full}
use Rattle.rules.specs.declared.Refused.{Refused}
use Rattle.rules.specs.Numbers.{TEXT, SYMBOL, LONG, SHAPE, DIGITS, VALUE, ROOM, SIZE, LENGTH, CONVERSION, COUNT, PLAN, INPUT, FULL}

abbrev pub refusal_number : Refusal → ℕ
refusal_number Text = TEXT
refusal_number Symbol = SYMBOL
refusal_number Long = LONG
refusal_number Shape = SHAPE
refusal_number Digits = DIGITS
refusal_number Value = VALUE
refusal_number Room = ROOM
refusal_number Size = SIZE
refusal_number Length = LENGTH
refusal_number Conversion = CONVERSION
refusal_number Count = COUNT
refusal_number Plan = PLAN
refusal_number Input = INPUT
refusal_number Full = FULL

-- the number of a result: 0 on success
abbrev pub result_number : {A : Type 0} → Result A Refusal → ℕ
result_number (Ok x) = 0
result_number (Err r) = refusal_number r

-- The answer of a call on one picture whose success has a length, of the one whose success has a value, and of a call on a layout, a plan
-- or a sheet.
abbrev pub length_answer : Result ℕ Refusal → Answer
length_answer (Ok n) = record { number = 0; field = 0; length = n; value = pos 0 }
length_answer (Err r) = record { number = refusal_number r; field = 0; length = 0; value = pos 0 }

abbrev pub value_answer : Result ℤ Refusal → Answer
value_answer (Ok m) = record { number = 0; field = 0; length = 1; value = m }
value_answer (Err r) = record { number = refusal_number r; field = 0; length = 0; value = pos 0 }

abbrev pub fields_answer : Result ℕ Refused → Answer
fields_answer (Ok n) = record { number = 0; field = 0; length = n; value = pos 0 }
fields_answer (Err r) = record { number = refusal_number r.refusal; field = r.field; length = 0; value = pos 0 }
