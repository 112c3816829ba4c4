-- The kind of a picture can be counted by its symbols: the positions with number k are those with the symbol
-- of kind k. Assumes nothing.
use Prim.Native.Nat.{ℕ, zero, suc, ◌+◌, ◌-◌, ◌≤◌}
use Prim.Native.Char.{code}
use mathlib.Core.Path.{◌≡◌, refl, sym, ap, ◌∙◌}
use mathlib.Core.Bool.{Bool, true, false, true≢false, cond, not, ◌&&◌, ◌||◌}
use mathlib.Core.List.{List, [], ◌∷◌}
use native.Mathlib.Omega.{arith}
use mir.Val.{bool_byte}
use borrow.Author.Tests.{eqb-true, eqb-false, eq-eqb, ne_eqb, leb-true, le-leb, not-true}
use lib.Dec.{eqb, leb}
use lib.ListN.{get_or}
use Rattle.rules.specs.Words.{text, has, one, times, place, same}
use Rattle.rules.specs.Text.{the_v, is_mark}
use Rattle.rules.specs.Roles.{last_kind}
use Rattle.rules.specs.Form.{numbered, punched_letters, number, numbers, suppresses, kind_up_to}
use Rattle.rules.specs.Shape.{drifting, one_drifts, suppression_apart}
use Rattle.rules.specs.Good.{suppressing}
use Rattle.rules.proofs.Logic.{by_test, by_or, both}
use Rattle.rules.proofs.Lists.{all_below, all_below_lem, same_eq, has_place}
use Rattle.rules.proofs.Spelling.{numbers_v, numbers_other}
use Rattle.rules.proofs.Forms.{one_suppresses, suppresses_one}
use Rattle.form.specs.Rooms.{kind_letter}

-- facts about the six kinds, by computing
kind_number : (k : ℕ) → 1 ≤ k → k ≤ 6 → number (kind_letter k) ≡ k
unfolding number
kind_number k p q =
    let e : (eqb k 0 || eqb (number (kind_letter k)) k) ≡ true = all_below_lem 7 (λ j. eqb j 0 || eqb (number (kind_letter j)) j) (unfold all_below has place kind_letter in refl) k (omega arith) in
    eqb-true _ k (rw (ne_eqb k 0 (λ z. omega arith)) at e)

kind_letter_lem : (k : ℕ) → 1 ≤ k → k ≤ 6 → get_or numbered k 0 ≡ kind_letter k
kind_letter_lem k p q =
    let e : (eqb k 0 || eqb (get_or numbered k 0) (kind_letter k)) ≡ true = all_below_lem 7 (λ j. eqb j 0 || eqb (get_or numbered j 0) (kind_letter j)) (unfold all_below kind_letter in refl) k (omega arith) in
    eqb-true _ _ (rw (ne_eqb k 0 (λ z. omega arith)) at e)

no_mark : (k : ℕ) → k ≤ 6 → (ms bs : List ℕ) → all_below 7 (λ j. eqb (times j ms) (times (kind_letter j) bs)) ≡ true → times k ms ≡ times (kind_letter k) bs
no_mark k q ms bs e = eqb-true _ _ (all_below_lem 7 (λ j. eqb (times j ms) (times (kind_letter j) bs)) e k (omega arith))

no_v : (k : ℕ) → k ≤ 6 → eqb (kind_letter k) the_v ≡ false
no_v k q = not-true _ (all_below_lem 7 (λ j. not (eqb (kind_letter j) the_v)) (unfold all_below kind_letter in refl) k (omega arith))

module _ (k : ℕ) (p : 1 ≤ k) (q : k ≤ 6) where
  -- a number of a kind is a place among the numbered symbols
  number_at : (b : ℕ) → k ≡ number b → get_or numbered (number b) 0 ≡ b
  unfolding number
  number_at b n = by_test (has b numbered) (λ e. rw e (has_place b numbered e).1) (λ e. let z : k ≡ 15 + place b punched_letters = rw e at n in absurd (omega arith))

  -- a position has number k exactly where it has the symbol of kind k
  number_letter : (b : ℕ) → eqb k (number b) ≡ eqb (kind_letter k) b
  number_letter b =
      by_test (eqb (kind_letter k) b)
      (λ e. let n : number b ≡ k = ap number (sym (eqb-true _ b e)) ∙ kind_number k p q in rw (n, e) (eq-eqb k k refl))
      (λ e. rw e (ne_eqb k (number b) (λ n. eqb-false (kind_letter k) b e (sym (kind_letter_lem k p q) ∙ ap (λ (j : ℕ). get_or numbered j 0) n ∙ number_at b n))))

  mark_case : (b : ℕ) (s : List ℕ) → is_mark (b ∷ s) ≡ true → times k (numbers (b ∷ s)) ≡ times (kind_letter k) (b ∷ s)
  unfolding numbers same
  mark_case b s e =
      by_or _ _ e
      (λ m. let w = both _ _ m in rw (eqb-true b (code "C") w.0, same_eq s (code "R" ∷ []) w.1) (no_mark k q (11 ∷ 12 ∷ []) (text "CR") (unfold all_below times kind_letter in refl)))
      (λ m. let w = both _ _ m in rw (eqb-true b (code "D") w.0, same_eq s (code "B" ∷ []) w.1) (no_mark k q (13 ∷ 14 ∷ []) (text "DB") (unfold all_below times kind_letter in refl)))

  pub times_letter : (s : List ℕ) → times k (numbers s) ≡ times (kind_letter k) s
  unfolding times
  times_letter [] = unfold numbers in refl
  times_letter (b ∷ s) =
      let next = times_letter s in
      by_test (is_mark (b ∷ s)) (λ e. mark_case b s e)
      (λ e. by_test (eqb b the_v)
      (λ v. rw (numbers_v b s e v, eqb-true b the_v v, no_v k q) (omega arith))
      (λ v. rw (numbers_other b s e v, number_letter b) (omega arith)))

-- `does_suppress`: b is the symbol of the kind and n how often it stands
pub enough_is : (k b n e : ℕ) (s : List ℕ) → 1 ≤ k → k ≤ 6 → b ≡ kind_letter k → n ≡ times b s → e ≡ cond (leb k 2) 1 2 → leb e n ≡ suppresses k (numbers s)
unfolding suppresses
enough_is k b n e s p q l t h = rw (times_letter k p q s, h, t, l)

-- the last kind that suppresses, from above
pub kind_here : (k : ℕ) (ns : List ℕ) → 1 ≤ k → suppresses k ns ≡ true → kind_up_to k ns ≡ k
unfolding kind_up_to
kind_here zero ns p e = absurd (omega arith)
kind_here (suc k) ns p e = rw e

pub kind_below : (k : ℕ) (ns : List ℕ) → 1 ≤ k → suppresses k ns ≡ false → kind_up_to k ns ≡ kind_up_to (k - 1) ns
unfolding kind_up_to
kind_below zero ns p e = absurd (omega arith)
kind_below (suc k) ns p e = let z : suc k - 1 ≡ k = omega arith in rw (e, z)

-- how many suppress, from below
pub kinds_more : (k : ℕ) (ns : List ℕ) → 1 ≤ k → suppressing k ns ≡ suppressing (k - 1) ns + one (suppresses k ns)
unfolding suppressing
kinds_more zero ns p = absurd (omega arith)
kinds_more (suc k) ns p = let z : suc k - 1 ≡ k = omega arith in rw z (omega arith)

pub kinds_le : (k : ℕ) (ns : List ℕ) → suppressing k ns ≤ k
unfolding suppressing
kinds_le zero ns = omega arith
kinds_le (suc k) ns =
    let n = kinds_le k ns in
    by_test (suppresses (suc k) ns) (λ e. rw e (omega arith)) (λ e. rw e (omega arith))

pub byte_one : (b : Bool) → bool_byte b ≡ one b
byte_one true = refl
byte_one false = refl

-- at most one kind suppresses: RULES 2.6 and 2.7
pub one_kind : (s : List ℕ) → leb (suppressing last_kind (numbers s)) 1 ≡ (one_drifts s && suppression_apart s)
unfolding one_drifts suppression_apart
one_kind s =
    let ns = numbers s in
    let d = leb (drifting ns) 1 in
    let apart = leb (one (suppresses 1 ns) + (one (suppresses 2 ns) + one (leb 1 (drifting ns)))) 1 in
    by_test (d && apart)
    (λ e. let w = both d apart e in rw e (le-leb _ 1 (one_suppresses ns (leb-true _ 1 w.0) (leb-true _ 1 w.1))))
    (λ e. rw e (by_test (leb (suppressing last_kind ns) 1)
    (λ q. let w = suppresses_one ns (leb-true _ 1 q) in absurd (true≢false (sym (rw (le-leb _ 1 w.0) (le-leb _ 1 w.1)) ∙ e)))
    (λ q. q)))
