-- Reading one field into a run: ROOM comes between the refusals that `picture::read` gives, which are told
-- apart by their numbers. Assumes nothing.
use Prim.Native.Nat.{ℕ, zero, suc, ◌<◌, ◌≤◌}
use mathlib.Core.Path.{◌≡◌, refl, sym, ap, ◌∙◌}
use mathlib.Core.Bool.{Bool, true, false}
use mathlib.Core.List.{List, [], ◌∷◌, ◌++◌}
use mathlib.Core.Option.{Option, none, some}
use mathlib.Core.Logic.{◌⊎◌, ⊎_elim, inl, inr}
use native.Mathlib.Omega.{arith}
use borrow.Author.Tests.{ltb-true, ltb-false, lt-ltb, le-ltb, le-leb, eqb-true, eqb-false}
use lib.Dec.{leb, ltb, eqb}
use lib.IntN.{ℤ}
use lib.ListN.{length, drop}
use Rattle.std.specs.Prelude.{Result, Ok, Err}
use Rattle.rules.specs.declared.Answer.{Answer}
use Rattle.rules.specs.declared.Refusal.{Refusal}
use Rattle.rules.specs.declared.Refusal.TheVariants.{Text, Symbol, Long, Shape, Digits, Value, Room, Size, Length, Conversion, Count, Plan, Input, Full}
use Rattle.rules.specs.Refusals.{refusal_number, value_answer}
use Rattle.collector.specs.ReadRuns.{with_room}
use Rattle.rules.specs.Numbers.{ROOM, LENGTH, when, unless, first_of}
use Rattle.rules.specs.Form.{size, form_of, meaning}
use Rattle.rules.specs.Text.{text_fits, is_spelled, symbols_of, most_symbols}
use Rattle.rules.specs.Shape.{shape, digits_fit, verdict}
use Rattle.rules.specs.Answers.{answer, lent_after, unread, said, read_answer, ReadIs}
use Rattle.rules.specs.Collector.{packed, bytes_of, read_run_number, ReadRunIs}
use Rattle.rules.proofs.Logic.{by_test}
use Rattle.rules.proofs.Firsts.{first_pass, first_stop, lent_kept}
use Rattle.wire.specs.Run.{put_at}
use Rattle.wire.proofs.Bytes.{eight_bytes}

-- the first of several numbers is none that is greater than all
first_le : (n : ℕ) (ns : List ℕ) (m : ℕ) → n ≤ m → first_of ns ≤ m → first_of (n ∷ ns) ≤ m
unfolding first_of
first_le zero ns m h l = l
first_le (suc n) ns m h l = h

unless_le : (b : Bool) (n m : ℕ) → n ≤ m → unless b n ≤ m
unless_le true n m h = omega arith
unless_le false n m h = h

first_none : (m : ℕ) → first_of [] ≤ m
unfolding first_of
first_none m = omega arith

verdict_le : (t : List ℕ) → verdict t ≤ 9
unfolding verdict
verdict_le t =
    first_le _ _ 9 (unless_le (text_fits t) 1 9 (omega arith)) (first_le _ _ 9 (unless_le (is_spelled t) 2 9 (omega arith))
    (first_le _ _ 9 (unless_le (leb (length (symbols_of t)) most_symbols) 3 9 (omega arith)) (first_le _ _ 9 (unless_le (shape (symbols_of t)) 4 9 (omega arith))
    (first_le _ _ 9 (unless_le (digits_fit (form_of (symbols_of t))) 5 9 (omega arith)) (first_none 9)))))

answer_number : (n f l : ℕ) (v : ℤ) → (answer n f l v).number ≡ n
answer_number zero f l v = refl
answer_number (suc n) f l v = refl

unread_is : (o : Option ℤ) → (unread o ≡ 0 → ⊥) → unread o ≡ 10
unread_is none h = refl
unread_is (some m) h = absurd (h refl)

first_single : (n : ℕ) → first_of (n ∷ []) ≡ n
unfolding first_of
first_single zero = refl
first_single (suc n) = refl

module _ (t f : List ℕ) (a : Answer) (h : ReadIs t f a) where
  abbrev o : Option ℤ
  o = h.says

  -- what is refused before ROOM
  abbrev Early : List ℕ
  Early = verdict t ∷ unless (eqb (length f) (size (meaning t))) LENGTH ∷ []

  early_le : first_of Early ≤ 9
  early_le = first_le _ _ 9 (verdict_le t) (first_le _ _ 9 (unless_le (eqb (length f) (size (meaning t))) 9 9 (omega arith)) (first_none 9))

  number_is : a.number ≡ first_of (Early ++ (unread o ∷ []))
  unfolding read_answer
  number_is = ap (λ (x : Answer). x.number) h.gives ∙ answer_number _ 0 1 (said o)

  answer_is : a ≡ answer a.number 0 1 (said o)
  unfolding read_answer
  answer_is = h.gives ∙ ap (λ (n : ℕ). answer n 0 1 (said o)) (sym number_is)

  -- the field's own number, where nothing is refused before
  own : first_of Early ≡ 0 → a.number ≡ unread o
  own q = number_is ∙ first_pass Early _ q ∙ first_single (unread o)

  run_own : (room : ℕ) → first_of Early ≡ 0 → read_run_number t f room o ≡ first_of (when (ltb room 8) ROOM ∷ unread o ∷ [])
  unfolding read_run_number
  run_own room q = first_pass Early (when (ltb room 8) ROOM ∷ unread o ∷ []) q

  -- refused before: neither success nor CONVERSION
  before : (a.number ≡ 0 → ⊥) → (a.number ≡ 10 → ⊥) → first_of Early ≡ 0 → ⊥
  before z c q = by_test (eqb (unread o) 0) (λ u. z (own q ∙ eqb-true (unread o) 0 u)) (λ u. c (own q ∙ unread_is o (eqb-false (unread o) 0 u)))

  module _ (run : List ℕ) where
    -- what the call must give, by the number found
    outcome : (n r : ℕ) (after : List ℕ) → read_run_number t f (length run) o ≡ n → r ≡ packed (answer n 0 1 (said o)) → after ≡ lent_after n (bytes_of (said o)) run → ReadRunIs t f run r after
    outcome n r after e x y = record { says = o; reads = h.reads; gives = x ∙ ap (λ (k : ℕ). packed (answer k 0 1 (said o))) (sym e); leaves = y ∙ ap (λ (k : ℕ). lent_after k (bytes_of (said o)) run) (sym e) }

    pub refused_before : (r : ℕ) → r ≡ packed a → (a.number ≡ 0 → ⊥) → (a.number ≡ 10 → ⊥) → ReadRunIs t f run r run
    unfolding read_run_number
    refused_before r e z c =
        let q = before z c in
        let x : read_run_number t f (length run) o ≡ a.number = first_stop Early (when (ltb (length run) 8) ROOM ∷ unread o ∷ []) q ∙ sym (number_is ∙ first_stop Early (unread o ∷ []) q) in
        outcome a.number r run x (e ∙ ap packed answer_is) (sym (lent_kept a.number (bytes_of (said o)) run z))

    module _ (s : (a.number ≡ 10) ⊎ (a.number ≡ 0)) where
      nothing_before : first_of Early ≡ 0
      nothing_before = by_test (eqb (first_of Early) 0) (λ u. eqb-true _ 0 u)
          (λ u.
          let n = eqb-false (first_of Early) 0 u in
          let x : a.number ≡ first_of Early = number_is ∙ first_stop Early _ n in
          ⊎_elim (λ (y : a.number ≡ 10). let z : ⊥ = omega (arith, early_le) in absurd z) (λ (y : a.number ≡ 0). absurd (n (sym x ∙ y))) s)

      pub no_room : length run < 8 → ReadRunIs t f run (packed (value_answer (Err Room))) run
      unfolding first_of
      no_room l =
          let x : read_run_number t f (length run) o ≡ ROOM = run_own (length run) nothing_before ∙ rw (lt-ltb (length run) 8 l) in
          outcome ROOM _ run x refl refl

      module _ (l : 8 ≤ length run) where
        room_number : read_run_number t f (length run) o ≡ a.number
        unfolding first_of
        room_number = run_own (length run) nothing_before ∙ rw (le-ltb (length run) 8 l) (first_single (unread o) ∙ sym (own nothing_before))

        pub says_nothing : (r : ℕ) → r ≡ packed a → (a.number ≡ 0 → ⊥) → ReadRunIs t f run r run
        says_nothing r e z = outcome a.number r run room_number (e ∙ ap packed answer_is) (sym (lent_kept a.number (bytes_of (said o)) run z))

        put_first : (m : ℤ) → put_at run 0 m ≡ bytes_of m ++ drop 8 run
        unfolding put_at
        put_first m = rw (le-leb 8 (length run) l)

        pub says_value : (r : ℕ) (after : List ℕ) → r ≡ packed a → a.number ≡ 0 → after ≡ put_at run 0 a.value → ReadRunIs t f run r after
        says_value r after e z q =
            let v : a.value ≡ said o = ap (λ (x : Answer). x.value) (answer_is ∙ ap (λ (n : ℕ). answer n 0 1 (said o)) z) in
            outcome 0 r after (room_number ∙ z) (e ∙ ap packed (answer_is ∙ ap (λ (n : ℕ). answer n 0 1 (said o)) z))
            (q ∙ put_first a.value ∙ ap (λ (m : ℤ). bytes_of m ++ drop 8 run) v ∙ ap (λ (n : ℕ). bytes_of (said o) ++ drop n run) (sym (eight_bytes (said o))))

-- By what the reading came to: what is left in the run, and that the call is right.
abbrev pub left_by : Result ℤ Refusal → List ℕ → List ℕ
left_by (Ok m) run = put_at run 0 m
left_by (Err e) run = run

pub value_few : (r : Result ℤ Refusal) → (value_answer r).length ≤ 65536
value_few (Ok m) = omega arith
value_few (Err e) = omega arith

module _ (t f run : List ℕ) where
  abbrev Right : Result ℤ Refusal → Type 0
  Right r = ReadRunIs t f run (packed (value_answer (with_room (length run) r))) (left_by (with_room (length run) r) run)

  early : (e : Refusal) → ReadIs t f (value_answer (Err e)) → (refusal_number e ≡ 0 → ⊥) → (refusal_number e ≡ 10 → ⊥) → ReadRunIs t f run (packed (value_answer (Err e))) run
  early e h z c = refused_before t f (value_answer (Err e)) h run _ refl z c

  by_refusal : (e : Refusal) → ReadIs t f (value_answer (Err e)) → Right (Err e)
  by_refusal Conversion h =
      by_test (ltb (length run) 8)
      (λ b. rw b (no_room t f _ h run (inl refl) (ltb-true (length run) 8 b)))
      (λ b. rw b (says_nothing t f _ h run (inl refl) (ltb-false (length run) 8 b) _ refl (λ z. omega arith)))
  by_refusal Text h = early Text h (λ z. omega arith) (λ z. omega arith)
  by_refusal Symbol h = early Symbol h (λ z. omega arith) (λ z. omega arith)
  by_refusal Long h = early Long h (λ z. omega arith) (λ z. omega arith)
  by_refusal Shape h = early Shape h (λ z. omega arith) (λ z. omega arith)
  by_refusal Digits h = early Digits h (λ z. omega arith) (λ z. omega arith)
  by_refusal Value h = early Value h (λ z. omega arith) (λ z. omega arith)
  by_refusal Room h = early Room h (λ z. omega arith) (λ z. omega arith)
  by_refusal Size h = early Size h (λ z. omega arith) (λ z. omega arith)
  by_refusal Length h = early Length h (λ z. omega arith) (λ z. omega arith)
  by_refusal Count h = early Count h (λ z. omega arith) (λ z. omega arith)
  by_refusal Plan h = early Plan h (λ z. omega arith) (λ z. omega arith)
  by_refusal Input h = early Input h (λ z. omega arith) (λ z. omega arith)
  by_refusal Full h = early Full h (λ z. omega arith) (λ z. omega arith)

  by_result : (r : Result ℤ Refusal) → ReadIs t f (value_answer r) → Right r
  by_result (Ok m) h =
      by_test (ltb (length run) 8)
      (λ b. rw b (no_room t f _ h run (inr refl) (ltb-true (length run) 8 b)))
      (λ b. rw b (says_value t f _ h run (inr refl) (ltb-false (length run) 8 b) _ _ refl refl refl))
  by_result (Err e) h = by_refusal e h

  pub read_right : (r : Result ℤ Refusal) → ReadIs t f (value_answer r) → (w : Result ℤ Refusal) → w ≡ with_room (length run) r → (n : ℕ) → n ≡ packed (value_answer w) → (after : List ℕ) → after ≡ left_by w run
      → ReadRunIs t f run n after
  read_right r h w e n g after q = rw (g, q, e) (by_result r h)
