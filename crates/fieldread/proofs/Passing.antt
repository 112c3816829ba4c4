-- Reading in one pass. A position that prints takes what has been said one step further, and one of the stretch leaves it as it is, so that
-- at the end all that prints has been asked; with what `hide` found of the stretch that is the whole field, place by place. Where printing
-- starts is never searched for: as long as it hasn't started the value is 0, and the next digit tells. Where a bare digit that prints is none the
-- cells aren't the field, so that it is 0's, everything suppressed, or no value's. Assumes nothing.
use mathlib.Core.Path.{◌≡◌, refl, sym, ◌∙◌}
use mathlib.Core.Bool.{Bool, true, false, not, ◌&&◌, ◌||◌, true≢false, and_assoc, and-false, and_self, and-true, or-true}
use mathlib.Core.List.{List, [], ◌∷◌, ◌++◌}
use mathlib.Core.Option.{none}
use Rattle.std.specs.Prelude.{None, Some, MatchOption, pos}
use Rattle.std.specs.Bool.{then_some}
use Prim.Native.Char.{code}
use Prim.Native.Nat.{ℕ, zero, suc, ◌+◌, ◌-◌, ◌*◌, ◌^◌, ◌<◌, ◌≤◌, min}
use native.Mathlib.Nat.{not-suc-le-zero, le_of_suc-le-suc}
use native.Mathlib.Numerals.{add-one}
use native.Mathlib.Omega.{arith}
use borrow.Author.Tests.{eq-eqb, eqb-false, eqb-true, le-leb, le-ltb, leb-false, leb-true, lt-leb, ltb-false, ltb-true, ne_eqb}
use lib.Dec.{eqb, leb, ltb}
use lib.ListN.{length, get_or, take, drop, length-take}
use lib.Seq.{take-length, take-suc}
use Rattle.rules.specs.Words.{any, count, same}
use Rattle.rules.specs.Search.{up_to}
use Rattle.rules.specs.Digits.{digits_of, value_of}
use Rattle.rules.specs.Text.{is_decimal}
use Rattle.rules.specs.Roles.{drifts, is_b, is_bare, is_digit, is_first_drifting, is_nine, is_punched, is_suppressible, opens}
use Rattle.rules.specs.Form.{Form, role_at, size}
use Rattle.rules.specs.Shape.{digit_count, most_digits}
use Rattle.rules.specs.Edit.{all_suppressible, cell, cell_at, digit_at, drifts_to, field, has_sign, in_stretch, is_blank, mark, opening, printed, signed, suppressed}
use Rattle.rules.specs.Candidate.{digit_in, option_of, read_of, shown, shown_in, worth_of}
use Rattle.rules.proofs.Characters.{b_no_digit, digit_shows, digit_small, hidden_blank, hidden_shows, printed_bare, unpunched_char}
use Rattle.rules.proofs.Digits.{digits_value, ten_le, ten_pos, value_digits, value_snoc}
use Rattle.rules.proofs.Exact.{shown_digits, shown_length, shown_small}
use Rattle.rules.proofs.Fields.{field_blank, field_cells, shown_field, tail_at}
use Rattle.rules.proofs.Lists.{same_eq}
use Rattle.rules.proofs.Logic.{both, by_test, eqb_swap, neither}
use Rattle.rules.proofs.Search.{first_least, length_up_to}
use Rattle.rules.proofs.Stretch.{drifts_in, drifts_last, early, stretch_from, stretch_in, stretch_to}
use Rattle.fieldread.specs.declared.zones.Said.{Said}
use Rattle.fieldread.specs.declared.zones.Hidden.{Hidden}
use Rattle.fieldread.specs.Zones.{HiddenTo, ShowsHidden, Led, Stopped, BsBetween, NoB, digit_step, fine_at, has_drift, is_fine, mark_step, marked_at, print_step, said_at, said_in, sides_of, so_far, start_in, value_to, within}
use Rattle.fieldread.proofs.Cases.{reads_minus, reads_other, reads_plus, reads_unsigned, reads_zero}
use Rattle.field.proofs.Loops.{count_part, counted, counted_digit, counted_le, counted_nine, counted_other, counted_zero, opening_here, opening_more, shown_more, shown_same, start_counted}

-- the digits that a field shows are the digits of what they are worth
worth_digits : (φ : Form) (f : List ℕ) → digits_of (digit_count φ) (worth_of φ f) ≡ shown φ f
unfolding worth_of
worth_digits φ f = rw (← shown_length φ.roles f) (digits_value (shown φ f) (shown_digits φ.roles f))

-- Tests of every place below n, and two lists compared by them.
pub so_false : (p : ℕ → Bool) (n k : ℕ) → k < n → p k ≡ false → so_far p n ≡ false
unfolding so_far
so_false p zero k h e = absurd (not-suc-le-zero h)
so_false p (suc n) k h e =
    by_test (eqb k n)
    (λ q. let w : p n ≡ false = rw (← eqb-true k n q) e in rw w (and-false (so_far p n)))
    (λ q. let w : k ≡ n → ⊥ = eqb-false k n q in rw (so_false p n k (omega arith) e))

so_same : (p q : ℕ → Bool) (n : ℕ) → ((k : ℕ) → k < n → p k ≡ q k) → so_far p n ≡ so_far q n
unfolding so_far
so_same p q zero h = refl
so_same p q (suc n) h = rw (so_same p q n (λ k l. h k (omega arith)), h n (omega arith))

swap : (a b c d : Bool) → (a && b && (c && d)) ≡ (a && c && (b && d))
swap true true c d = refl
swap true false true d = refl
swap true false false d = refl
swap false b c d = refl

so_both : (p q : ℕ → Bool) (n : ℕ) → so_far (λ k. p k && q k) n ≡ (so_far p n && so_far q n)
unfolding so_far
so_both p q zero = refl
so_both p q (suc n) = rw (so_both p q n) (swap (so_far p n) (so_far q n) (p n) (q n))

pub so_true : (p : ℕ → Bool) (n : ℕ) → ((k : ℕ) → k < n → p k ≡ true) → so_far p n ≡ true
unfolding so_far
so_true p zero h = refl
so_true p (suc n) h = rw (so_true p n (λ k l. h k (omega arith)), h n (omega arith))

-- all hold but perhaps the one at j
so_one : (p : ℕ → Bool) (n j : ℕ) → j < n → ((k : ℕ) → k < n → (k ≡ j → ⊥) → p k ≡ true) → so_far p n ≡ p j
so_one p n j l h =
    by_test (p j)
    (λ e. so_true p n (λ k m. by_test (eqb k j) (λ q. rw (eqb-true k j q) e) (λ q. h k m (eqb-false k j q))) ∙ sym e)
    (λ e. so_false p n j l e ∙ sym e)

same_snoc : (xs ys : List ℕ) (x y : ℕ) → length xs ≡ length ys → same (xs ++ (x ∷ [])) (ys ++ (y ∷ [])) ≡ (same xs ys && eqb x y)
unfolding same
same_snoc [] [] x y l = and-true (eqb x y)
same_snoc [] (b ∷ ys) x y l = let z : ⊥ = omega arith in absurd z
same_snoc (a ∷ xs) [] x y l = let z : ⊥ = omega arith in absurd z
same_snoc (a ∷ xs) (b ∷ ys) x y l = rw (same_snoc xs ys x y (omega arith)) (sym (and_assoc (eqb a b) (same xs ys) (eqb x y)))

same_part : (g : ℕ → ℕ) (f : List ℕ) (n : ℕ) → n ≤ length f → same (up_to n g) (take n f) ≡ so_far (λ k. eqb (g k) (get_or f k 0)) n
unfolding up_to so_far same
same_part g f zero h = refl
same_part g f (suc n) h =
    let l : n < length f = omega arith in
    let q : length (up_to n g) ≡ length (take n f) = simp (length_up_to, length-take) (omega arith) in
    rw (take-suc f n 0 l, same_snoc (up_to n g) (take n f) _ _ q, same_part g f n (omega arith))

pub same_places : (g : ℕ → ℕ) (f : List ℕ) (n : ℕ) → length f ≡ n → same (up_to n g) f ≡ so_far (λ k. eqb (g k) (get_or f k 0)) n
same_places g f n l = let t : take n f ≡ f = rw (← l) (take-length f) in rw t at (same_part g f n (omega arith))

-- Characters and roles.
decimal_worth : (d : ℕ) → d < 10 → digit_in (48 + d) ≡ d
unfolding is_punched
decimal_worth d l = rw (unpunched_char 0 true d refl l) at (digit_shows 0 true d l)

figure_is : (c : ℕ) → eqb (48 + digit_in c) c ≡ is_decimal c
figure_is c =
    by_test (is_decimal c)
    (λ e.
    let w = both (leb 48 c) (leb c 57) e in
    let z : 48 + (c - 48) ≡ c = omega (arith, leb-true 48 c w.0) in
    let d = rw z at (decimal_worth (c - 48) (omega (arith, leb-true c 57 w.1))) in
    rw e (eq-eqb (48 + digit_in c) c (omega arith)))
    (λ e. rw e (ne_eqb (48 + digit_in c) c (λ q.
    let s = digit_small c in
    true≢false (sym (rw (le-leb 48 c (omega arith), le-leb c 57 (omega arith))) ∙ e))))

bare_digit : (r : ℕ) → is_bare r ≡ true → is_digit r ≡ true
unfolding is_bare
bare_digit r e = (both (is_digit r) _ e).0

mark_bare : (r : ℕ) → is_digit r ≡ false → is_bare r ≡ false
unfolding is_bare
mark_bare r d = rw d

-- the digit shown at a digit's position is that of the character there
shown_at_lem : (rs f : List ℕ) (k : ℕ) → k < length rs → is_digit (get_or rs k 0) ≡ true → get_or (shown_in rs f) (count is_digit (take k rs)) 0 ≡ digit_in (get_or f k 0)
unfolding shown_in count
shown_at_lem [] f k h e = absurd (not-suc-le-zero h)
shown_at_lem (r ∷ rs) f zero h e = rw e
shown_at_lem (r ∷ rs) f (suc k) h e =
    let ih = rw (tail_at f k) at (shown_at_lem rs (drop 1 f) k (le_of_suc-le-suc h) e) in
    by_test (is_digit r) (λ q. rw q ih) (λ q. rw q ih)

nine_digit : (r : ℕ) → is_nine r ≡ true → is_digit r ≡ true
unfolding is_digit
nine_digit r e = rw e

-- a digit is a nine or opens the stretch
pub no_digit : (r : ℕ) → (is_nine r || opens r) ≡ false → is_digit r ≡ false
unfolding is_digit opens
no_digit r e = let w = neither (is_nine r) (opens r) e in let s = neither (is_suppressible r) (is_first_drifting r) w.1 in rw (w.0, s.0)

module _ (φ : Form) (f : List ℕ) where
  -- One position on.
  value_digit : (k : ℕ) → k < size φ → is_digit (role_at φ k) ≡ true → value_to φ f (k + 1) ≡ value_to φ f k * 10 + digit_in (get_or f k 0)
  value_digit k h d = rw (shown_more φ.roles f k h d) (value_snoc _ _)

  value_mark : (k : ℕ) → k < size φ → is_digit (role_at φ k) ≡ false → value_to φ f (k + 1) ≡ value_to φ f k
  value_mark k h d = rw (shown_same φ.roles f k h d)

  pub said_first : record { value = 0; plus = true; minus = true } ≡ said_at φ f 0
  unfolding said_at so_far shown_in value_of
  said_first = refl

  pub said_small : digit_count φ ≤ most_digits → (k : ℕ) → (said_at φ f k).value < 10 ^ most_digits
  unfolding said_at
  said_small d k =
      let b : count is_digit (take k φ.roles) ≤ most_digits = omega (arith, count_part is_digit φ.roles k) in
      omega (arith, shown_small (take k φ.roles) f, ten_le _ most_digits b)

  -- outside the stretch
  module _ (k : ℕ) (s t : Said) (h : k < size φ) (w : within φ f k ≡ false) (e : s ≡ said_at φ f k) where
    pub said_digit : is_bare (role_at φ k) ≡ true → t ≡ digit_step s (get_or f k 0) → t ≡ said_at φ f (k + 1)
    unfolding said_at digit_step so_far marked_at
    said_digit b q = rw (q, e, value_digit k h (bare_digit _ b), add-one k, w, b, and-true (so_far (marked_at φ f false) k), and-true (so_far (marked_at φ f true) k))

    pub said_other : is_bare (role_at φ k) ≡ false → t ≡ print_step s (role_at φ k) (get_or f k 0) → t ≡ said_at φ f (k + 1)
    unfolding said_at print_step so_far marked_at
    said_other b q =
        by_test (is_digit (role_at φ k))
        (λ d. rw (q, e, value_digit k h d, add-one k, w, b, d))
        (λ d. rw (q, e, value_mark k h d, add-one k, w, b, d))

    pub said_mark : is_digit (role_at φ k) ≡ false → t ≡ mark_step s (role_at φ k) (get_or f k 0) → t ≡ said_at φ f (k + 1)
    unfolding mark_step print_step printed
    said_mark d q = said_other (mark_bare _ d) (rw (q, d))

  -- inside it
  said_in_lem : (k : ℕ) → within φ f k ≡ true → value_to φ f k ≡ 0 → value_to φ f (k + 1) ≡ 0 → said_at φ f k ≡ said_at φ f (k + 1)
  unfolding said_at so_far marked_at
  said_in_lem k w e q = rw (e, q, add-one k, w, and-true (so_far (marked_at φ f false) k), and-true (so_far (marked_at φ f true) k))

  out_early : (k : ℕ) → k < opening φ → within φ f k ≡ false
  unfolding in_stretch
  out_early k h = rw (lt-leb (opening φ) k h)

  pub out_late : (k : ℕ) → start_in φ f ≤ k → within φ f k ≡ false
  unfolding in_stretch
  out_late k h = rw (le-ltb k (start_in φ f) h) (and-false (leb (opening φ) k))

  -- Where printing starts, if not before position k.
  pub start_least : start_in φ f ≤ min φ.vee (size φ)
  start_least = omega (arith, start_counted φ (shown φ f), counted_le φ (shown φ f))

  module _ (k : ℕ) (l : k ≤ start_in φ f) where
    none_yet : k ≤ counted φ (shown φ f)
    none_yet = omega (arith, start_counted φ (shown φ f))

    pub start_nine : is_nine (role_at φ k) ≡ true → start_in φ f ≤ k
    start_nine n = omega (arith, start_counted φ (shown φ f), counted_nine φ (shown φ f) k none_yet (nine_digit _ n) n)

    start_digit : k < size φ → is_digit (role_at φ k) ≡ true → (digit_in (get_or f k 0) ≡ 0 → ⊥) → start_in φ f ≤ k
    unfolding digit_at
    start_digit h d z = omega (arith, start_counted φ (shown φ f), counted_digit φ (shown φ f) k none_yet d (λ y. z (sym (shown_at_lem φ.roles f k h d) ∙ y)))

    module _ (v : k < φ.vee) (h : k < size φ) where
      start_zero : is_nine (role_at φ k) ≡ false → is_digit (role_at φ k) ≡ true → digit_in (get_or f k 0) ≡ 0 → k < start_in φ f
      unfolding digit_at
      start_zero n d z = let m = counted_zero φ (shown φ f) k none_yet h n (shown_at_lem φ.roles f k h d ∙ z) in omega (arith, start_counted φ (shown φ f))

      pub start_by_digit : (x : ℕ) → is_nine (role_at φ k) ≡ false → is_digit (role_at φ k) ≡ true → x ≡ digit_in (get_or f k 0) → not (eqb x 0) ≡ leb (start_in φ f) k
      start_by_digit x n d e =
          by_test (eqb x 0)
          (λ z. rw z (sym (lt-leb (start_in φ f) k (start_zero n d (sym e ∙ eqb-true x 0 z)))))
          (λ z. rw z (sym (le-leb (start_in φ f) k (start_digit h d (λ y. eqb-false x 0 z (e ∙ y))))))

      pub start_other : is_digit (role_at φ k) ≡ false → k < start_in φ f
      start_other d = let m = counted_other φ (shown φ f) k none_yet h d in omega (arith, start_counted φ (shown φ f))

  -- before it all digits are 0
  empty_on : (k : ℕ) → k < start_in φ f → value_to φ f k ≡ 0 → value_to φ f (k + 1) ≡ 0
  empty_on k l e =
      let h : k < size φ = omega (arith, start_least) in
      by_test (is_digit (role_at φ k))
      (λ d. by_test (eqb (digit_in (get_or f k 0)) 0)
      (λ z. rw (value_digit k h d, e, eqb-true (digit_in (get_or f k 0)) 0 z))
      (λ z. let m = start_digit k (omega arith) h d (eqb-false (digit_in (get_or f k 0)) 0 z) in absurd (omega arith)))
      (λ d. rw (value_mark k h d) e)

  empty_to : (k : ℕ) → k ≤ start_in φ f → value_to φ f k ≡ 0
  unfolding shown_in value_of
  empty_to zero l = refl
  empty_to (suc k) l = rw (← add-one k) (empty_on k (omega arith) (empty_to k (omega arith)))

  -- so that the stretch says nothing
  kept_to : (from n : ℕ) → opening φ ≤ from → from + n ≤ start_in φ f → said_at φ f from ≡ said_at φ f (from + n)
  kept_to from zero o l = let q : from + 0 ≡ from = omega arith in rw q
  kept_to from (suc n) o l =
      let k = from + n in
      let q : k + 1 ≡ from + suc n = omega arith in
      let s = said_in_lem k (stretch_in φ (shown φ f) k (omega arith) (omega arith)) (empty_to k (omega arith)) (empty_to (k + 1) (omega arith)) in
      kept_to from n o (omega arith) ∙ rw q at s

  pub said_kept : (from : ℕ) → Led φ f from → said_at φ f from ≡ said_at φ f (start_in φ f)
  said_kept from b =
      by_test (ltb from (start_in φ f))
      (λ l.
      let m = ltb-true from (start_in φ f) l in
      let q : from + (start_in φ f - from) ≡ start_in φ f = omega arith in
      rw q at (kept_to from (start_in φ f - from) (b.opened m) (omega arith)))
      (λ l. let q : from ≡ start_in φ f = omega (arith, b.short, ltb-false from (start_in φ f) l) in rw q)

  -- The first zone: neither the opening nor the start has been passed.
  module _ (k : ℕ) (a : k ≤ start_in φ f) (l : k ≤ opening φ) where
    pub lead_stop : start_in φ f ≤ k → Led φ f k
    lead_stop s = record { short = a; early = l; opened = λ m. let z : ⊥ = omega arith in absurd z }

    pub lead_here : (is_nine (role_at φ k) || opens (role_at φ k)) ≡ true → Led φ f k
    lead_here e =
        by_test (is_nine (role_at φ k))
        (λ n. lead_stop (start_nine k a n))
        (λ n. let q = opening_here φ k l (rw n at e) in record { short = a; early = l; opened = λ m. omega arith })

    module _ (v : k < φ.vee) (h : k < size φ) (e : (is_nine (role_at φ k) || opens (role_at φ k)) ≡ false) where
      pub lead_early : k + 1 ≤ opening φ
      lead_early = opening_more φ k l h (neither (is_nine (role_at φ k)) (opens (role_at φ k)) e).1

      pub lead_on : k + 1 ≤ start_in φ f
      lead_on = let m = start_other k a v h (no_digit _ e) in omega arith

      pub lead_out : within φ f k ≡ false
      lead_out = let m = lead_early in out_early k (omega arith)

  -- The stretch: where a digit shows what hidden positions do it is worth 0, so that printing has not started.
  pub hidden_first : (k : ℕ) → Led φ f k → HiddenTo φ f k
  hidden_first k g = record { short = g.short; opened = g.opened; hides = λ j o l. let z : ⊥ = omega (arith, g.early) in absurd z }

  module _ (k : ℕ) (g : HiddenTo φ f k) where
    inside : k < start_in φ f → within φ f k ≡ true
    inside l = stretch_in φ (shown φ f) k (g.opened l) l

    pub hidden_on : k < φ.vee → k < size φ → is_nine (role_at φ k) ≡ false → ShowsHidden φ f k → HiddenTo φ f (k + 1)
    hidden_on v h n e =
        let l : k < start_in φ f =
        by_test (is_digit (role_at φ k))
        (λ d. start_zero k g.short v h n d (rw e (hidden_shows φ.kind (role_at φ k))))
        (λ d. start_other k g.short v h d) in
        let o = g.opened l in
        record {
          short = omega arith;
          opened = λ m. omega arith;
          hides = λ j p m. by_test (eqb j k) (λ q. rw (eqb-true j k q) e) (λ q. let w : j ≡ k → ⊥ = eqb-false j k q in g.hides j p (omega arith));
        }

    -- printing starts behind it; where a symbol drifts its character is then a blank
    pub stopped_all : (from : ℕ) → Led φ f from → start_in φ f ≤ k → Stopped φ f from k (code " ")
    stopped_all from b s =
        record {
          starts = omega (arith, g.short);
          hides = λ j i d. g.hides j (stretch_from φ (shown φ f) j i) (omega (arith, stretch_to φ (shown φ f) j i));
          ended = λ d l.
              let w = drifts_in φ (shown φ f) (omega (arith, b.early, b.opened (omega (arith, g.short)), g.short)) in
              g.hides (drifts_to φ (shown φ f)) w.1 (omega (arith, w.2)) ∙ hidden_blank φ.kind _ d;
        }

  -- Bs with their blanks behind a position of the stretch
  pub bs_first : (at : ℕ) → at < start_in φ f → BsBetween φ f at (at + 1)
  bs_first at l = record { short = omega arith; behind = omega arith; blanks = λ j h m. let z : ⊥ = omega arith in absurd z }

  pub bs_on : (at k : ℕ) → BsBetween φ f at k → k < φ.vee → k < size φ → is_b (role_at φ k) ≡ true → ShowsHidden φ f k → BsBetween φ f at (k + 1)
  bs_on at k t v h b e =
      let l = start_other k t.short v h (b_no_digit _ b) in
      record {
        short = omega arith;
        behind = omega (arith, t.behind);
        blanks = λ j p m. by_test (eqb j k) (λ q. rw (eqb-true j k q) (b, e)) (λ q. let w : j ≡ k → ⊥ = eqb-false j k q in t.blanks j p (omega arith));
      }

  -- printing starts behind them: the position before is the last of the stretch that is no B, and has the drifting character
  module _ (at to : ℕ) (l : at < start_in φ f) (b : is_b (role_at φ at) ≡ false) (t : BsBetween φ f at to) where
    drifts_here : start_in φ f ≤ to → drifts_to φ (shown φ f) ≡ at
    drifts_here s =
        let w = drifts_last φ (shown φ f) at l b in
        let d = drifts_to φ (shown φ f) in
        by_test (ltb at d)
        (λ m. absurd (true≢false (sym (t.blanks d (ltb-true at d m) (omega (arith, w.2))).0 ∙ w.0)))
        (λ m. omega (arith, w.1, ltb-false at d m))

    pub stopped_drift : (from : ℕ) → HiddenTo φ f at → drifts φ.kind ≡ true → start_in φ f ≤ to → Stopped φ f from to (get_or f at 0)
    stopped_drift from g d s =
        record {
          starts = omega (arith, t.short);
          hides = λ j i e.
              let w : j ≡ at → ⊥ = λ q. eqb-false j _ (rw d at e) (q ∙ sym (drifts_here s)) in
              let m = stretch_to φ (shown φ f) j i in
              by_test (ltb j at)
              (λ q. g.hides j (stretch_from φ (shown φ f) j i) (ltb-true j at q))
              (λ q. (t.blanks j (omega (arith, ltb-false j at q)) (omega arith)).1);
          ended = λ y m. rw (drifts_here s);
        }

  -- The last zone: a digit before it is no nine and so of the stretch, and from there on each bare one has to be one.
  fine_early : (k : ℕ) → k < start_in φ f → fine_at φ f k ≡ true
  unfolding fine_at opening
  fine_early k l =
      by_test (is_digit (role_at φ k))
      (λ d. by_test (opens (role_at φ k))
      (λ o. rw (stretch_in φ (shown φ f) k (first_least (λ j. opens (role_at φ j)) (size φ) k o) l))
      (λ o. absurd (true≢false (sym d ∙ no_digit _ (rw (early φ (shown φ f) k l d).1 o)))))
      (λ d. rw (mark_bare _ d, or-true (within φ f k)))

  pub fine_first : (k : ℕ) → start_in φ f ≡ k → so_far (fine_at φ f) k ≡ true
  fine_first k s = so_true _ k (λ j l. fine_early j (omega arith))

  pub fine_digit : (k : ℕ) → is_decimal (get_or f k 0) ≡ true → so_far (fine_at φ f) k ≡ true → so_far (fine_at φ f) (k + 1) ≡ true
  unfolding so_far fine_at
  fine_digit k c e = rw (add-one k, e, c, or-true (within φ f k || not (is_bare (role_at φ k))))

  pub fine_other : (k : ℕ) → is_bare (role_at φ k) ≡ false → so_far (fine_at φ f) k ≡ true → so_far (fine_at φ f) (k + 1) ≡ true
  unfolding so_far fine_at
  fine_other k b e = rw (add-one k, e, b, or-true (within φ f k))

  pub said_none : (k : ℕ) → start_in φ f ≤ k → k < size φ → is_bare (role_at φ k) ≡ true → is_decimal (get_or f k 0) ≡ false → record { value = 0; plus = false; minus = false } ≡ said_in φ f
  unfolding said_in fine_at
  said_none k s h d c = rw (so_false (fine_at φ f) (size φ) k h (rw (out_late k s, d, c)))

  pub said_all : (s : Said) → s ≡ said_at φ f (size φ) → is_fine φ f ≡ true → s ≡ said_in φ f
  unfolding said_in said_at worth_of
  said_all s q e = rw (q, e, take-length φ.roles)

  -- The end. What stands at a position, and what has been asked of it, are the same.
  module _ (negative : Bool) (k : ℕ) where
    cell_hidden : within φ f k ≡ true → has_drift φ f k ≡ false → cell_at φ (shown φ f) negative k ≡ suppressed φ.kind (role_at φ k)
    unfolding cell_at cell
    cell_hidden i d = rw (i, d)

    cell_drift : within φ f k ≡ true → has_drift φ f k ≡ true → cell_at φ (shown φ f) negative k ≡ mark φ.kind negative
    unfolding cell_at cell
    cell_drift i d = rw (i, d)

    cell_printed : within φ f k ≡ false → k < size φ → cell_at φ (shown φ f) negative k ≡ printed (role_at φ k) negative (digit_in (get_or f k 0))
    unfolding cell_at cell printed digit_at
    cell_printed i h = by_test (is_digit (role_at φ k)) (λ e. rw (i, e, shown_at_lem φ.roles f k h e)) (λ e. rw (i, e))

    cell_bare : within φ f k ≡ false → k < size φ → is_bare (role_at φ k) ≡ true → eqb (cell_at φ (shown φ f) negative k) (get_or f k 0) ≡ is_decimal (get_or f k 0)
    cell_bare i h b = rw (cell_printed i h, printed_bare (role_at φ k) negative (digit_in (get_or f k 0)) b (digit_small (get_or f k 0))) (figure_is (get_or f k 0))

    -- the drifting character, if it has its place here
    unfoldable drifted : Bool
    drifted = not (within φ f k && has_drift φ f k) || eqb (get_or f k 0) (mark φ.kind negative)

    drifted_out : within φ f k ≡ false → drifted ≡ true
    unfolding drifted
    drifted_out i = rw i

    drifted_off : has_drift φ f k ≡ false → drifted ≡ true
    unfolding drifted
    drifted_off d = rw (d, and-false (within φ f k))

    drifted_here : within φ f k ≡ true → has_drift φ f k ≡ true → drifted ≡ eqb (get_or f k 0) (mark φ.kind negative)
    unfolding drifted
    drifted_here i d = rw (i, d)

    cell_is : (within φ f k ≡ true → has_drift φ f k ≡ false → ShowsHidden φ f k) → k < size φ
        → eqb (cell_at φ (shown φ f) negative k) (get_or f k 0) ≡ (fine_at φ f k && marked_at φ f negative k && drifted)
    unfolding fine_at marked_at drifted
    cell_is g h =
        by_test (within φ f k)
        (λ i. by_test (has_drift φ f k)
        (λ d. rw (cell_drift i d, i, d) (eqb_swap (mark φ.kind negative) (get_or f k 0)))
        (λ d. rw (cell_hidden i d, i, d) (eq-eqb _ _ (sym (g i d)))))
        (λ i. by_test (is_bare (role_at φ k))
        (λ b. rw (cell_bare i h b, i, b, and-true (is_decimal (get_or f k 0)), and-true (is_decimal (get_or f k 0))))
        (λ b. rw (cell_printed i h, i, b) (eqb_swap _ (get_or f k 0) ∙ sym (and-true _))))

  -- All places together.
  module _ (long : length f ≡ size φ) where
    -- a character of the stretch that is neither what hidden positions show nor the drifting one: no value has the field
    module _ (k : ℕ) (i : within φ f k ≡ true) (d : has_drift φ f k ≡ false) (n : ShowsHidden φ f k → ⊥) where
      no_field : (negative : Bool) → same (field φ negative (worth_of φ f)) f ≡ false
      no_field negative =
          let e : eqb (suppressed φ.kind (role_at φ k)) (get_or f k 0) ≡ false = ne_eqb _ _ (λ q. n (sym q)) in
          let h : k < size φ = omega (arith, stretch_to φ (shown φ f) k i, start_least) in
          by_test (is_blank φ (worth_of φ f))
          (λ b. rw (field_blank φ negative (worth_of φ f) b, same_places _ f (size φ) long) (so_false _ (size φ) k h e))
          (λ b. rw (field_cells φ negative (worth_of φ f) b, worth_digits φ f, same_places _ f (size φ) long) (so_false _ (size φ) k h (rw (cell_hidden negative k i d) e)))

      unread : read_of φ f ≡ none
      unread = reads_other φ f (no_field false) (no_field true)

    module _ (from to last : ℕ) (b : Led φ f from) (g : Stopped φ f from to last) where
      -- the drifting character stands somewhere
      abbrev stands : Bool
      stands = drifts φ.kind && ltb from to

      all_drifted : (negative : Bool) → so_far (λ k. drifted negative k) (size φ) ≡ (not stands || eqb last (mark φ.kind negative))
      all_drifted negative =
          by_test (drifts φ.kind)
          (λ d. by_test (ltb from to)
          (λ e.
          let l = ltb-true from to e in
          let q : start_in φ f ≡ to = g.starts in
          let j = drifts_to φ (shown φ f) in
          let w = drifts_in φ (shown φ f) (omega (arith, b.early, b.opened (omega arith))) in
          let i = stretch_in φ (shown φ f) j w.1 w.2 in
          let off : (k : ℕ) → (k ≡ j → ⊥) → has_drift φ f k ≡ false = λ k n. rw (d, ne_eqb k j n) in
          let on : has_drift φ f j ≡ true = rw (d, eq-eqb j j refl) in
          let y : drifted negative j ≡ eqb last (mark φ.kind negative) = rw (drifted_here negative j i on, g.ended d l) in
          rw (d, e) (so_one (λ k. drifted negative k) (size φ) j (omega (arith, w.2, start_least)) (λ k h n. drifted_off negative k (off k n)) ∙ y))
          (λ e.
          let l = ltb-false from to e in
          rw (d, e) (so_true _ (size φ) (λ k h. drifted_out negative k (by_test (ltb k (opening φ))
          (λ o. out_early k (ltb-true k _ o))
          (λ o. out_late k (omega (arith, ltb-false k _ o, g.starts, b.early))))))))
          (λ d. rw d (so_true _ (size φ) (λ k h. drifted_off negative k (rw d))))

      all_cells : (negative : Bool)
          → (is_fine φ f && so_far (marked_at φ f negative) (size φ) && (not stands || eqb last (mark φ.kind negative)))
          ≡ same (up_to (size φ) (λ k. cell_at φ (shown φ f) negative k)) f
      all_cells negative =
          let n = size φ in
          rw (← all_drifted negative, same_places _ f n long, so_same _ _ n (λ k h. cell_is negative k (λ i d. g.hides k i d) h))
          (sym (so_both (λ k. fine_at φ f k && marked_at φ f negative k) (λ k. drifted negative k) n ∙ rw (so_both (fine_at φ f) (marked_at φ f negative) n)))

      module _ (s : Said) (q : s ≡ said_in φ f) where
        pub sides_drift : (t : Said) → stands ≡ true → t ≡ mark_step s φ.kind last → t ≡ sides_of φ f
        unfolding sides_of said_in mark_step
        sides_drift t e u = rw (u, q, ← all_cells false, ← all_cells true, e)

        pub sides_plain : stands ≡ false → s ≡ sides_of φ f
        unfolding sides_of said_in
        sides_plain e = rw (q, ← all_cells false, ← all_cells true, e, and-true (is_fine φ f && so_far (marked_at φ f false) (size φ)), and-true (is_fine φ f && so_far (marked_at φ f true) (size φ)))

    -- what `hide` has found: printing doesn't start at k, where no hidden position's character stands
    module _ (k : ℕ) (g : HiddenTo φ f k) (l : k < start_in φ f) (n : ShowsHidden φ f k → ⊥) where
      -- no B has the drifting character
      b_off : (j : ℕ) → is_b (role_at φ j) ≡ true → has_drift φ f j ≡ false
      b_off j e =
          let w = drifts_in φ (shown φ f) (omega (arith, g.opened l)) in
          rw (ne_eqb j (drifts_to φ (shown φ f)) (λ q. true≢false (sym e ∙ rw q w.0))) (and-false (drifts φ.kind))

      pub unread_kind : drifts φ.kind ≡ false → read_of φ f ≡ none
      unread_kind d = unread k (inside k g l) (rw d) n

      pub unread_b : is_b (role_at φ k) ≡ true → read_of φ f ≡ none
      unread_b e = unread k (inside k g l) (b_off k e) n

      -- printing doesn't start behind the Bs either: the B there shows no blank, or the drifting character stands further right
      unread_drift : (to : ℕ) → drifts φ.kind ≡ true → BsBetween φ f k to → NoB φ f to → to < start_in φ f → read_of φ f ≡ none
      unread_drift to d t u m =
          by_test (is_b (role_at φ to))
          (λ q. unread to (stretch_in φ (shown φ f) to (omega (arith, g.opened l, t.behind)) m) (b_off to q) (u m q))
          (λ q.
          let w = drifts_last φ (shown φ f) to m q in
          unread k (inside k g l) (rw (d, ne_eqb k (drifts_to φ (shown φ f)) (λ z. omega (arith, w.1, t.behind)))) n)

      pub hides_drift : (from to : ℕ) → drifts φ.kind ≡ true → is_b (role_at φ k) ≡ false → BsBetween φ f k to → NoB φ f to → (x : Bool) → x ≡ leb (start_in φ f) to
          → MatchOption {T = Hidden} (then_some x (record { to = to; last = get_or f k 0 })) (read_of φ f ≡ none) (λ h. Stopped φ f from h.to h.last)
      hides_drift from to d e t u true q = stopped_drift k to l e t from g d (leb-true (start_in φ f) to (sym q))
      hides_drift from to d e t u false q = unread_drift to d t u (leb-false (start_in φ f) to (sym q))

  -- Where not everything is suppressed the cells are the field; else all positions are hidden.
  sides_field : (negative : Bool) → is_blank φ (worth_of φ f) ≡ false → same (up_to (size φ) (λ k. cell_at φ (shown φ f) negative k)) f ≡ same (field φ negative (worth_of φ f)) f
  sides_field negative b = rw (field_cells φ negative (worth_of φ f) b, worth_digits φ f)

  pub plus_nine : any is_nine φ.roles ≡ true → (sides_of φ f).plus ≡ same (field φ false (worth_of φ f)) f
  unfolding sides_of is_blank all_suppressible
  plus_nine n = sides_field false (rw n)

  pub sides_small : digit_count φ ≤ most_digits → (sides_of φ f).value < 10 ^ most_digits
  unfolding sides_of worth_of
  sides_small d = by_test (is_fine φ f) (λ t. rw t (omega (arith, shown_small φ.roles f, ten_le (digit_count φ) most_digits d))) (λ t. rw t (omega arith))

  pub sides_worth : ((sides_of φ f).value ≡ 0 → ⊥) → (sides_of φ f).value ≡ worth_of φ f
  unfolding sides_of
  sides_worth z = by_test (is_fine φ f) (λ t. rw t) (λ t. absurd (z (rw t)))

  module _ (z : worth_of φ f ≡ 0 → ⊥) where
    some_shown : is_blank φ (worth_of φ f) ≡ false
    unfolding is_blank
    some_shown = rw (ne_eqb (worth_of φ f) 0 z) (and-false (all_suppressible φ))

    pub plus_some : (sides_of φ f).plus ≡ same (field φ false (worth_of φ f)) f
    unfolding sides_of
    plus_some = sides_field false some_shown

    pub minus_some : (sides_of φ f).minus ≡ same (field φ true (worth_of φ f)) f
    unfolding sides_of
    minus_some = sides_field true some_shown

  -- a bare digit that prints and is none is no cell
  cell_fine : (negative : Bool) (k : ℕ) → k < size φ → eqb (cell_at φ (shown φ f) negative k) (get_or f k 0) ≡ (fine_at φ f k && eqb (cell_at φ (shown φ f) negative k) (get_or f k 0))
  unfolding fine_at
  cell_fine negative k h =
      by_test (within φ f k)
      (λ i. rw i)
      (λ i. by_test (is_bare (role_at φ k))
      (λ b. rw (i, b, cell_bare negative k i h b) (sym (and_self (is_decimal (get_or f k 0)))))
      (λ b. rw (i, b)))

  cells_none : length f ≡ size φ → is_fine φ f ≡ false → (negative : Bool) → same (up_to (size φ) (λ k. cell_at φ (shown φ f) negative k)) f ≡ false
  cells_none l t negative = same_places _ f (size φ) l ∙ so_same _ _ (size φ) (cell_fine negative) ∙ so_both (fine_at φ f) _ (size φ) ∙ rw t

  -- 0's field shows 0
  worth_zero : same (field φ false 0) f ≡ true → worth_of φ f ≡ 0
  unfolding worth_of
  worth_zero e = rw (← same_eq _ _ e, shown_field φ false 0) (value_digits (digit_count φ) 0 (ten_pos (digit_count φ)))

  -- so the value said is what the digits are worth, or no value has the field, with either sign
  by_worth : {A : Type 0} → length f ≡ size φ → ((sides_of φ f).value ≡ worth_of φ f → A) → ((worth_of φ f ≡ 0 → ⊥) → ((negative : Bool) → same (field φ negative (worth_of φ f)) f ≡ false) → A) → A
  unfolding sides_of
  by_worth l is other =
      by_test (is_fine φ f)
      (λ t. is (rw t))
      (λ t. by_test (eqb (worth_of φ f) 0)
      (λ z. is (rw (t, eqb-true (worth_of φ f) 0 z)))
      (λ z. let n = eqb-false (worth_of φ f) 0 z in other n (λ negative. sym (sides_field negative (some_shown n)) ∙ cells_none l t negative)))

  module _ (l : length f ≡ size φ) where
    pub plus_worth : same (field φ false (worth_of φ f)) f ≡ true → (sides_of φ f).value ≡ worth_of φ f
    plus_worth p = by_worth l (λ e. e) (λ n m. absurd (true≢false (sym p ∙ m false)))

    module _ (z : (sides_of φ f).value ≡ 0) where
      pub unread_zero : same (field φ false (worth_of φ f)) f ≡ false → read_of φ f ≡ none
      unread_zero p = by_worth l (λ e. reads_zero φ f p (sym e ∙ z)) (λ n m. reads_other φ f p (m true))

      pub plus_blank : any is_nine φ.roles ≡ false → same (up_to (size φ) (λ k. suppressed φ.kind (role_at φ k))) f ≡ same (field φ false (worth_of φ f)) f
      unfolding is_blank all_suppressible
      plus_blank n =
          rw (← field_blank φ false 0 (rw n))
          (by_worth l
          (λ e. let w : worth_of φ f ≡ 0 = sym e ∙ z in rw w)
          (λ s m. by_test (same (field φ false 0) f) (λ e. absurd (s (worth_zero e))) (λ e. e ∙ sym (m false))))

  -- what the sides say, settled
  module _ (s : Said) (e : s ≡ sides_of φ f) where
    said_value : s.value ≡ (sides_of φ f).value
    said_value = rw e

    pub settled_small : digit_count φ ≤ most_digits → s.value < 2 ^ 63
    settled_small few = omega (arith, said_value, sides_small few)

    pub settled_plus : length f ≡ size φ → same (field φ false (worth_of φ f)) f ≡ true → Some (pos s.value) ≡ option_of (read_of φ f)
    settled_plus long p = rw (said_value, plus_worth long p, reads_plus φ f p)

    module _ (no_plus : same (field φ false (worth_of φ f)) f ≡ false) where
      pub settled_zero : length f ≡ size φ → s.value ≡ 0 → None ≡ option_of (read_of φ f)
      settled_zero long z = rw (unread_zero long (sym said_value ∙ z) no_plus)

      pub settled_unsigned : has_sign φ ≡ false → None ≡ option_of (read_of φ f)
      settled_unsigned h = rw (reads_unsigned φ f no_plus h)

      module _ (n : s.value ≡ 0 → ⊥) where
        said_worth : s.value ≡ worth_of φ f
        said_worth = said_value ∙ sides_worth (λ q. n (said_value ∙ q))

        said_minus : s.minus ≡ same (field φ true (worth_of φ f)) f
        said_minus = rw e (minus_some (λ q. n (said_worth ∙ q)))

        pub settled_other : s.minus ≡ false → None ≡ option_of (read_of φ f)
        settled_other m = rw (reads_other φ f no_plus (sym said_minus ∙ m))

        pub settled_minus : s.minus ≡ true → has_sign φ ≡ true → Some (signed true s.value) ≡ option_of (read_of φ f)
        settled_minus m h = rw (said_worth, reads_minus φ f no_plus (λ q. n (said_worth ∙ q)) h (sym said_minus ∙ m))
