-- The walk over a text's bytes finds what `expand` says. Assumes nothing.
use Prim.Native.Nat.{ℕ, zero, suc, ◌+◌, ◌-◌, ◌*◌, ◌<◌, ◌≤◌, min}
use mathlib.Core.Path.{◌≡◌, refl, sym, ap, ◌∙◌}
use mathlib.Core.Bool.{Bool, true, false, cond, ◌&&◌, and-false}
use mathlib.Core.List.{List, [], ◌∷◌, ◌++◌, append_assoc, append-nil}
use mathlib.Core.Option.{Option, none, some}
use native.Mathlib.Nat.{sub-zero, add-zero, zero-add, add_assoc}
use native.Mathlib.Numerals.{add-one}
use native.Mathlib.Omega.{arith}
use borrow.Author.Tests.{leb-true, leb-false}
use lib.Dec.{leb}
use lib.ListN.{length, take, replicate, get_or, drop, length-append, length-replicate, drop_of_length-le}
use lib.Seq.{sets, sets-eq, set_out, length-sets, take_all, drop-cons, drop-drop}
use Rattle.std.proofs.lemmas.List.{replicate-append-replicate}
use Rattle.std.specs.Prelude.{Ok, Err}
use Rattle.rules.specs.declared.Mode.{Mode}
use Rattle.rules.specs.declared.Mode.TheVariants.{Plain, Opened, OneDigit, TwoDigits, Closed, Spoilt}
use Rattle.rules.specs.declared.Picture.{Picture}
use Rattle.rules.specs.declared.Refusal.TheVariants.{Symbol}
use Rattle.rules.specs.Text.{is_plain, is_mark, next, copies, ended, onto, expand_from, most_symbols, room_of}
use Rattle.rules.proofs.Logic.{by_test}
use Rattle.rules.proofs.Lists.{sets_append}
use Rattle.text.specs.Expansion.{filled, filled_by, spelled_of}

-- Writing into a room.

-- what falls outside is dropped
sets_out : (xs out : List ℕ) (i : ℕ) → length out ≤ i → sets out i xs ≡ out
sets_out [] out i h = refl
sets_out (x ∷ xs) out i h = rw (set_out out i x h) (sets_out xs out (suc i) (omega arith))

fill_inside : (s : List ℕ) (i n b : ℕ) → i + n ≤ length s → sets s i (replicate n b) ≡ take i s ++ (replicate n b ++ drop n (drop i s))
fill_inside s i n b h = sets-eq (replicate n b) s i (rw length-replicate h) ∙ rw (length-replicate, append_assoc, drop-drop) refl

-- n copies of b from place i on, in the places that a room of 64 has for them
pub fill_is : (s : List ℕ) (i n b : ℕ) → length s ≡ 64
    → take (min i 64) s ++ (replicate (min (i + n) 64 - min i 64) b ++ drop (min (i + n) 64 - min i 64) (drop (min i 64) s)) ≡ sets s i (replicate n b)
fill_is s i n b l =
    by_test (leb (i + n) 64)
    (λ t.
    let h = leb-true (i + n) 64 t in
    let x : min i 64 ≡ i = omega arith in
    let y : min (i + n) 64 - i ≡ n = omega arith in
    rw (x, y) (sym (fill_inside s i n b (omega arith))))
    (λ t. by_test (leb i 64)
    (λ u.
    let h = leb-false (i + n) 64 t in
    let g = leb-true i 64 u in
    let x : min i 64 ≡ i = omega arith in
    let y : min (i + n) 64 - i ≡ 64 - i = omega arith in
    let z : 64 - i + (n - (64 - i)) ≡ n = omega arith in
    let w : replicate n b ≡ replicate (64 - i) b ++ replicate (n - (64 - i)) b = rw (replicate-append-replicate, z) in
    rw (x, y) (sym (rw w (sets_append (replicate (64 - i) b) _ s i ∙ sets_out (replicate (n - (64 - i)) b) (sets s i (replicate (64 - i) b)) (i + length (replicate (64 - i) b)) (rw (length-sets, length-replicate) (omega arith)) ∙ fill_inside s i (64 - i) b (omega arith)))))
    (λ u.
    let g = leb-false i 64 u in
    let x : min i 64 ≡ 64 = omega arith in
    let y : min (i + n) 64 - 64 ≡ 0 = omega arith in
    rw (x, y) (rw (drop_of_length-le s {i = 64} (omega arith), append-nil) (take_all 64 s (omega arith) ∙ sym (sets_out (replicate n b) s i (omega arith))))))

pub filled_append : (p : Picture) (xs ys : List ℕ) → filled (filled p xs) ys ≡ filled p (xs ++ ys)
unfolding filled
filled_append p xs ys = rw (sets_append xs ys p.symbols p.count, length-append xs ys, add_assoc)

drop_replicate : (k n : ℕ) → drop {A = ℕ} k (replicate n 0) ≡ replicate (n - k) 0
drop_replicate zero n = rw sub-zero
drop_replicate (suc k) zero = let e : 0 - suc k ≡ 0 = omega arith in rw e
drop_replicate (suc k) (suc n) = let e : suc n - suc k ≡ n - k = omega arith in rw e (drop_replicate k n)

fill_room : (n : ℕ) (xs : List ℕ) → length xs ≤ n → sets (replicate n 0) 0 xs ≡ xs ++ replicate (n - length xs) 0
fill_room n xs h = sets-eq xs (replicate n 0) 0 (rw (length-replicate, zero-add) h) ∙ rw (zero-add, drop_replicate)

-- a room filled from its start, where all fits
pub filled_room : (xs : List ℕ) → length xs ≤ most_symbols → filled (room_of []) xs ≡ room_of xs
unfolding filled room_of
filled_room xs h = let e = fill_room 64 xs h in let z : 0 + length xs ≡ length xs = zero-add (length xs) in rw (e, z)

-- The walk.

pub filled_onto : (p : Picture) (xs : List ℕ) (o : Option (List ℕ)) → filled_by (filled p xs) o ≡ filled_by p (onto xs o)
filled_onto p xs none = refl
filled_onto p xs (some ys) = ap Ok (filled_append p xs ys)

-- what the loop keeps: what is left of the text, from this mode and into this room, gives what the whole text
-- gives
pub record Head (t : List ℕ) (m : Mode) (p : Picture) (i : ℕ) : Type 0 where
  pub small : p.count ≤ 64 * i
  pub rest : filled_by p (expand_from m (drop i t)) ≡ spelled_of t

pub head_none : (t : List ℕ) → Head t Plain (room_of []) 0
unfolding room_of spelled_of
head_none t = record { small = omega arith; rest = refl }

module _ (t : List ℕ) (m : Mode) (p : Picture) (i : ℕ) (l : i < length t) (h : Head t m p i) where
  left : drop i t ≡ get_or t i 0 ∷ drop (i + 1) t
  left = rw add-one (drop-cons t i 0 l)

  -- one byte more
  pub head_more : (n : ℕ) → n ≡ copies m (get_or t i 0) → n ≤ 64 → (is_plain m && is_mark (drop i t)) ≡ false
      → Head t (next m (get_or t i 0)) (filled p (replicate n (get_or t i 0))) (i + 1)
  unfolding expand_from
  head_more n e k q =
      let r = rw left at q in
      let x : (expand_from m (drop i t) ≡ onto (replicate n (get_or t i 0)) (expand_from (next m (get_or t i 0)) (drop (i + 1) t))) = rw (left, r, e) in
      record {
        small = unfold filled in rw length-replicate (omega (arith, h.small));
        rest = filled_onto p _ _ ∙ ap (filled_by p) (sym x) ∙ h.rest;
      }

  -- the mark
  pub head_mark : (a b : ℕ) → is_plain m ≡ true → is_mark (drop i t) ≡ true → drop i t ≡ a ∷ b ∷ []
      → Ok (filled (filled p (replicate 1 a)) (replicate 1 b)) ≡ spelled_of t
  unfolding expand_from
  head_mark a b e q d =
      let r = rw d at q in
      let x : (expand_from m (drop i t) ≡ some (a ∷ b ∷ [])) = rw (d, e, r) in
      ap Ok (filled_append p (a ∷ []) (b ∷ [])) ∙ ap (filled_by p) (sym x) ∙ h.rest

-- no mark ends the text here
pub not_plain : (r : Bool) (m : Mode) (s : List ℕ) → r ≡ is_plain m → r ≡ false → (is_plain m && is_mark s) ≡ false
not_plain r m s e q = rw (← e, q)

pub not_mark : (r : Bool) (m : Mode) (s : List ℕ) → r ≡ is_mark s → r ≡ false → (is_plain m && is_mark s) ≡ false
not_mark r m s e q = rw (← e, q) (and-false (is_plain m))

-- the end of the text
ends_at : (m : Mode) → ended m ≡ cond (is_plain m) (some []) none
ends_at Plain = refl
ends_at Opened = refl
ends_at (OneDigit n) = refl
ends_at (TwoDigits n) = refl
ends_at (Closed n) = refl
ends_at Spoilt = refl

module _ (t : List ℕ) (m : Mode) (p : Picture) (i : ℕ) (l : length t ≤ i) (h : Head t m p i) where
  at_end : filled_by p (cond (is_plain m) (some []) none) ≡ spelled_of t
  unfolding expand_from
  at_end = ap (filled_by p) (sym (ends_at m)) ∙ rw (drop_of_length-le t l) at h.rest

  pub head_done : is_plain m ≡ true → Ok p ≡ spelled_of t
  unfolding filled
  head_done e = rw (e, add-zero) at at_end

  pub head_waits : is_plain m ≡ false → Err Symbol ≡ spelled_of t
  head_waits e = rw e at at_end
