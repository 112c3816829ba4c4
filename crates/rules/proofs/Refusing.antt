-- Refusals that come back: none has the number 0, which is success, and one that is passed on stays what it
-- is. Results that come back as one answer are one result. Assumes nothing.
use Prim.Native.Nat.{ℕ}
use mathlib.Core.Path.{◌≡◌, refl, sym, ◌∙◌, ap}
use mathlib.Core.Bool.{Bool, true, false, cond}
use native.Mathlib.Omega.{arith}
use borrow.Author.Tests.{ne_eqb}
use lib.Dec.{eqb}
use lib.IntN.{ℤ, pos}
use Rattle.std.specs.Prelude.{Err, IsErrAnd, Ok, Result}
use Rattle.rules.specs.declared.Refusal.{Refusal}
use Rattle.rules.specs.declared.Refusal.TheVariants.{Text, Symbol, Long, Shape, Digits, Value, Room, Size, Length, Conversion, Count, Plan, Input, Full}
use Rattle.rules.specs.declared.Refused.{Refused}
use Rattle.rules.specs.declared.Answer.{Answer}
use Rattle.rules.specs.Refusals.{fields_answer, length_answer, refusal_number, value_answer}

pub refusal_some : (r : Refusal) → refusal_number r ≡ 0 → ⊥
refusal_some Text e = omega arith
refusal_some Symbol e = omega arith
refusal_some Long e = omega arith
refusal_some Shape e = omega arith
refusal_some Digits e = omega arith
refusal_some Value e = omega arith
refusal_some Room e = omega arith
refusal_some Size e = omega arith
refusal_some Length e = omega arith
refusal_some Conversion e = omega arith
refusal_some Count e = omega arith
refusal_some Plan e = omega arith
refusal_some Input e = omega arith
refusal_some Full e = omega arith

pub refusal_eqb : (r : Refusal) → eqb (refusal_number r) 0 ≡ false
refusal_eqb r = ne_eqb (refusal_number r) 0 (refusal_some r)

-- a test that gives a number to a refusal and 0 else
pub test_failed : (r : Refusal) (t : Bool) (n : ℕ) → refusal_number r ≡ cond t 0 n → (t ≡ false) × (refusal_number r ≡ n)
test_failed r true n e = absurd (refusal_some r e)
test_failed r false n e = (refl, e)

-- what an error that is passed on answers
pub passed_on : (r : Result ℕ Refused) (refused : Refused) → IsErrAnd r (λ e. e ≡ refused)
    → fields_answer r ≡ record { number = refusal_number refused.refusal; field = refused.field; length = 0; value = pos 0 }
passed_on (Ok n) refused h = absurd h
passed_on (Err e) refused h = rw h

-- The number tells the refusal.

named : ℕ → Refusal
named n =
    cond (eqb n 1) Text (cond (eqb n 2) Symbol (cond (eqb n 3) Long (cond (eqb n 4) Shape (cond (eqb n 5) Digits (cond (eqb n 6) Value (cond (eqb n 7) Room
    (cond (eqb n 8) Size (cond (eqb n 9) Length (cond (eqb n 10) Conversion (cond (eqb n 11) Count (cond (eqb n 12) Plan (cond (eqb n 13) Input Full))))))))))))

named_back : (r : Refusal) → named (refusal_number r) ≡ r
unfolding named
named_back Text = refl
named_back Symbol = refl
named_back Long = refl
named_back Shape = refl
named_back Digits = refl
named_back Value = refl
named_back Room = refl
named_back Size = refl
named_back Length = refl
named_back Conversion = refl
named_back Count = refl
named_back Plan = refl
named_back Input = refl
named_back Full = refl

pub refusal_one : (r q : Refusal) → refusal_number r ≡ refusal_number q → r ≡ q
refusal_one r q e = sym (named_back r) ∙ ap named e ∙ named_back q

refused_one : (r q : Refused) → refusal_number r.refusal ≡ refusal_number q.refusal → r.field ≡ q.field → r ≡ q
refused_one r q e f =
    ap (λ (x : Refusal). record { refusal = x; field = r.field }) (refusal_one r.refusal q.refusal e)
    ∙ ap (λ (x : ℕ). record { refusal = q.refusal; field = x }) f

-- An answer tells the result: there is one that comes back as these four numbers.

number_is : {x y : Answer} → x ≡ y → x.number ≡ y.number
number_is e = ap (λ (a : Answer). a.number) e

pub length_one : (r q : Result ℕ Refusal) → length_answer r ≡ length_answer q → r ≡ q
length_one (Ok n) (Ok k) e = ap (λ (x : ℕ). Ok x) (ap (λ (a : Answer). a.length) e)
length_one (Ok n) (Err q) e = absurd (refusal_some q (sym (number_is e)))
length_one (Err r) (Ok k) e = absurd (refusal_some r (number_is e))
length_one (Err r) (Err q) e = ap (λ (x : Refusal). Err x) (refusal_one r q (number_is e))

pub value_one : (r q : Result ℤ Refusal) → value_answer r ≡ value_answer q → r ≡ q
value_one (Ok m) (Ok k) e = ap (λ (x : ℤ). Ok x) (ap (λ (a : Answer). a.value) e)
value_one (Ok m) (Err q) e = absurd (refusal_some q (sym (number_is e)))
value_one (Err r) (Ok k) e = absurd (refusal_some r (number_is e))
value_one (Err r) (Err q) e = ap (λ (x : Refusal). Err x) (refusal_one r q (number_is e))

pub fields_one : (r q : Result ℕ Refused) → fields_answer r ≡ fields_answer q → r ≡ q
fields_one (Ok n) (Ok k) e = ap (λ (x : ℕ). Ok x) (ap (λ (a : Answer). a.length) e)
fields_one (Ok n) (Err q) e = absurd (refusal_some q.refusal (sym (number_is e)))
fields_one (Err r) (Ok k) e = absurd (refusal_some r.refusal (number_is e))
fields_one (Err r) (Err q) e = ap (λ (x : Refused). Err x) (refused_one r q (number_is e) (ap (λ (a : Answer). a.field) e))
