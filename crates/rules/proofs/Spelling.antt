-- Numbers spelled as bytes and read back, with V put in, and the numbers of what a text expands to. Assumes nothing.
use Prim.Native.Nat.{ℕ, zero, suc, ◌+◌, ◌-◌, ◌<◌, ◌≤◌}
use Prim.Native.Char.{code}
use mathlib.Core.Path.{◌≡◌, refl}
use mathlib.Core.Bool.{Bool, true, false, not, ◌&&◌, ◌||◌, or-true}
use mathlib.Core.List.{List, [], ◌∷◌, map}
use native.Mathlib.Omega.{arith}
use borrow.Author.Tests.{eqb-true, eqb-false, leb-true, ltb-true, not-true, lt-ltb, le-ltb}
use lib.Dec.{eqb, leb, ltb, leb-suc-suc}
use lib.ListN.{length}
use Rattle.rules.specs.Words.{has, one, place, same, times}
use Rattle.rules.specs.Text.{is_mark, is_symbol, symbols, the_v}
use Rattle.rules.specs.Roles.{is_punched, role_limit}
use Rattle.rules.specs.Form.{number, numbers}
use Rattle.rules.specs.Good.{marks_last, plain_number}
use Rattle.rules.proofs.Expand.{spelled}
use Rattle.rules.proofs.Lists.{all, all_below_lem, all_below, member_at, members, same_eq}
use Rattle.rules.proofs.Logic.{both, by_or, by_test, eqb_swap}
use Rattle.rules.proofs.WriteBack.{letter_of, letters, with_v}

-- the letter of a plain number: neither V nor a mark's first letter, and its number is found again
pub record PlainLetter (c : ℕ) : Type 0 where
  pub no_c : eqb (letter_of c) (code "C") ≡ false
  pub no_d : eqb (letter_of c) (code "D") ≡ false
  pub no_v : eqb (letter_of c) the_v ≡ false
  pub numbered : number (letter_of c) ≡ c
  pub symbol : is_symbol (letter_of c) ≡ true

plain_test : ℕ → Bool
plain_test c =
    not (eqb (letter_of c) (code "C")) && (not (eqb (letter_of c) (code "D")) && (not (eqb (letter_of c) the_v)
    && (eqb (number (letter_of c)) c && is_symbol (letter_of c))))

pub plain_small : (c : ℕ) → plain_number c ≡ true → c < role_limit
unfolding plain_number
plain_small c l = by_or (leb c 10) _ l (λ e. omega (arith, leb-true c 10 e)) (λ e. ltb-true c role_limit (both (is_punched c) _ e).1)

pub plain_letter : (c : ℕ) → plain_number c ≡ true → PlainLetter c
unfolding plain_test
plain_letter c l =
    let e : (not (plain_number c) || plain_test c) ≡ true =
    all_below_lem role_limit (λ n. not (plain_number n) || plain_test n) (unfold all_below plain_number is_punched number place has in refl) c (plain_small c l) in
    let w = both _ _ (rw l at e) in
    let x = both _ _ w.1 in
    let y = both _ _ x.1 in
    let z = both _ _ y.1 in
    record { no_c = not-true _ w.0; no_d = not-true _ x.0; no_v = not-true _ y.0; numbered = eqb-true _ _ z.0; symbol = z.1 }

pub plain_number_lem : (b : ℕ) → is_symbol b ≡ true → eqb b the_v ≡ false → plain_number (number b) ≡ true
unfolding plain_number is_punched number
plain_number_lem b h e = rw e at (members (λ x. eqb x the_v || plain_number (number x)) symbols (unfold all place has in refl) b h)

-- no letter is V
never_v : (c : ℕ) → eqb the_v (letter_of c) ≡ false
never_v c = not-true _ (member_at (λ x. not (eqb the_v x)) letters (unfold all in refl) refl c)

pub by_marks : {A : Type 0} (v r : ℕ) (rs : List ℕ) → marks_last v (r ∷ rs) ≡ true
    → ((v ≡ 1 → ⊥) → r ≡ 11 → rs ≡ 12 ∷ [] → A) → ((v ≡ 1 → ⊥) → r ≡ 13 → rs ≡ 14 ∷ [] → A) → (plain_number r ≡ true → marks_last (v - 1) rs ≡ true → A) → A
unfolding marks_last same
by_marks v r rs h f g k =
    by_or _ _ h
    (λ p. let w = both _ _ p in
    let n : v ≡ 1 → ⊥ = eqb-false v 1 (not-true _ w.0) in
    by_or _ _ w.1
    (λ q. let x = both _ _ q in f n (eqb-true r 11 x.0) (same_eq rs (12 ∷ []) x.1))
    (λ q. let x = both _ _ q in g n (eqb-true r 13 x.0) (same_eq rs (14 ∷ []) x.1)))
    (λ p. let w = both _ _ p in k w.0 w.1)

-- a list of bytes is spelled, and its numbers are these
abbrev pub Spells : List ℕ → List ℕ → Type 0
Spells s cs = (numbers s ≡ cs) × (spelled s ≡ true)

more : (c : ℕ) (s cs : List ℕ) → plain_number c ≡ true → Spells s cs → Spells (letter_of c ∷ s) (c ∷ cs)
unfolding numbers spelled same
more c s cs l h =
    let p = plain_letter c l in
    (rw (p.no_c, p.no_d, p.no_v, p.numbered, h.0), rw (p.symbol, h.1, or-true))

spell : (v : ℕ) (cs : List ℕ) → marks_last v cs ≡ true → Spells (map letter_of cs) cs
unfolding numbers spelled same
spell v [] h = (refl, refl)
spell v (c ∷ cs) h =
    by_marks v c cs h (λ n p q. rw (p, q) (refl, refl)) (λ n p q. rw (p, q) (refl, refl))
    (λ l q. more c (map letter_of cs) cs l (spell (v - 1) cs q))

-- V stands not inside a mark
past : (v b : ℕ) → (suc v ≡ 1 → ⊥) → with_v v (b ∷ []) ≡ b ∷ []
unfolding with_v
past zero b n = absurd (n refl)
past (suc v) b n = refl

pub spell_with : (v : ℕ) (cs : List ℕ) → marks_last v cs ≡ true → Spells (with_v v (map letter_of cs)) cs
unfolding numbers spelled same with_v
spell_with v [] h = (refl, refl)
spell_with zero (c ∷ cs) h = let w = spell zero (c ∷ cs) h in unfold has in (w.0, w.1)
spell_with (suc v) (c ∷ cs) h =
    by_marks (suc v) c cs h (λ n p q. rw (p, q, past v (code "R") n) (refl, refl)) (λ n p q. rw (p, q, past v (code "B") n) (refl, refl))
    (λ l q. let e : suc v - 1 ≡ v = omega arith in more c (with_v v (map letter_of cs)) cs l (spell_with v cs (rw e at q)))

pub vee_back : (v : ℕ) (cs : List ℕ) → v ≤ length cs → place the_v (with_v v (map letter_of cs)) ≡ v
unfolding place with_v
vee_back zero [] l = refl
vee_back (suc v) [] l = absurd (omega arith)
vee_back zero (c ∷ cs) l = refl
vee_back (suc v) (c ∷ cs) l = rw (never_v c, vee_back v cs (omega arith))

no_vee : (cs : List ℕ) → times the_v (map letter_of cs) ≡ 0
unfolding times
no_vee [] = refl
no_vee (c ∷ cs) = rw (never_v c, no_vee cs)

pub one_vee : (v : ℕ) (cs : List ℕ) → times the_v (with_v v (map letter_of cs)) ≤ 1
unfolding times with_v
one_vee v [] = omega arith
one_vee zero (c ∷ cs) = rw (never_v c, no_vee cs) (omega arith)
one_vee (suc v) (c ∷ cs) = rw (never_v c) (omega (arith, one_vee v cs))

pub length_with : (v : ℕ) (xs : List ℕ) → length (with_v v xs) ≡ length xs + one (ltb v (length xs))
unfolding with_v
length_with v [] = rw (le-ltb v 0 (omega arith))
length_with zero (x ∷ xs) = rw (lt-ltb 0 (suc (length xs)) (omega arith)) (omega arith)
length_with (suc v) (x ∷ xs) = rw (length_with v xs, leb-suc-suc (suc v) (length xs)) (omega arith)

-- What the symbols of a text say of its form.
pub record Fitting (v : ℕ) (ns : List ℕ) (m : ℕ) : Type 0 where
  pub marks : marks_last v ns ≡ true
  pub inside : v ≤ length ns
  pub size : length ns + one (ltb v (length ns)) ≤ m

abbrev pub Fitted : List ℕ → Type 0
Fitted s = Fitting (place the_v s) (numbers s) (length s)

loosen : (v : ℕ) (cs : List ℕ) → marks_last v cs ≡ true → marks_last 0 cs ≡ true
unfolding marks_last same
loosen v [] h = refl
loosen v (c ∷ cs) h =
    by_marks v c cs h (λ n p q. rw (p, q)) (λ n p q. rw (p, q)) (λ l q. rw (l, loosen (v - 1) cs q, or-true))

pub one_le : (b : Bool) → one b ≤ 1
one_le true = omega arith
one_le false = omega arith

marks_more : (v c : ℕ) (cs : List ℕ) → plain_number c ≡ true → marks_last v cs ≡ true → marks_last (suc v) (c ∷ cs) ≡ true
unfolding marks_last
marks_more v c cs l h = let e : suc v - 1 ≡ v = omega arith in rw (e, l, h, or-true)

place_here : (x y : ℕ) (ys : List ℕ) → eqb y x ≡ true → place x (y ∷ ys) ≡ 0
unfolding place
place_here x y ys e = rw (eqb_swap x y, e)

place_later : (x y : ℕ) (ys : List ℕ) → eqb y x ≡ false → place x (y ∷ ys) ≡ suc (place x ys)
unfolding place
place_later x y ys e = rw (eqb_swap x y, e)

module _ (b : ℕ) (s : List ℕ) (e : is_mark (b ∷ s) ≡ false) where
  pub numbers_v : eqb b the_v ≡ true → numbers (b ∷ s) ≡ numbers s
  unfolding numbers
  numbers_v q = rw (e, q)

  pub numbers_other : eqb b the_v ≡ false → numbers (b ∷ s) ≡ number b ∷ numbers s
  unfolding numbers
  numbers_other q = rw (e, q)

fitted_mark : (b : ℕ) (s : List ℕ) → is_mark (b ∷ s) ≡ true → Fitted (b ∷ s)
unfolding numbers place marks_last same
fitted_mark b s e =
    by_or _ _ e
    (λ q. let w = both _ _ q in rw (eqb-true b (code "C") w.0, same_eq s (code "R" ∷ []) w.1) (record { marks = refl; inside = omega arith; size = omega arith }))
    (λ q. let w = both _ _ q in rw (eqb-true b (code "D") w.0, same_eq s (code "B" ∷ []) w.1) (record { marks = refl; inside = omega arith; size = omega arith }))

pub fitted : (s : List ℕ) → spelled s ≡ true → Fitted s
unfolding spelled
fitted [] h = unfold numbers place marks_last in record { marks = refl; inside = omega arith; size = omega arith }
fitted (b ∷ s) h =
    by_test (is_mark (b ∷ s)) (fitted_mark b s)
    (λ e.
    let w = both (is_symbol b) (spelled s) (rw e at h) in
    let i = fitted s w.1 in
    by_test (eqb b the_v)
    (λ q. let z = one_le (ltb 0 (length (numbers s))) in
    rw (numbers_v b s e q, place_here the_v b s q) (record { marks = loosen (place the_v s) (numbers s) i.marks; inside = omega arith; size = omega arith }))
    (λ q.
    rw (numbers_other b s e q, place_later the_v b s q) (record {
      marks = marks_more (place the_v s) (number b) (numbers s) (plain_number_lem b w.0 q) i.marks;
      inside = omega arith;
      size = rw (leb-suc-suc (suc (place the_v s)) (length (numbers s))) (omega arith);
    })))
