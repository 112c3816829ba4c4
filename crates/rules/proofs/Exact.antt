-- Reading is exact: the only value that can have a field is what the digits shown are worth, so asking for that value's field with plus and
-- then with minus decides; and the value is the only one. Assumes nothing.
use mathlib.Core.Path.{◌≡◌, refl, sym, ◌∙◌, ap}
use mathlib.Core.Bool.{Bool, true, false, not, ◌&&◌, ◌||◌, true≢false, and-false}
use mathlib.Core.List.{List, [], ◌∷◌}
use mathlib.Core.Option.{Option, none, some}
use mathlib.Core.Logic.{⊎_elim}
use Prim.Native.Nat.{ℕ, zero, suc, ◌+◌, ◌^◌, ◌<◌, ◌≤◌}
use native.Mathlib.Omega.{arith}
use borrow.Author.Tests.{leb-true, leb-false, le-leb, lt-leb, lt-ltb, ltb-true, ne_eqb, not-false}
use lib.IntN.{ℤ, pos, negsuc, nat_abs}
use lib.Dec.{lit<, leb, ltb}
use lib.ListN.{length, get_or, drop}
use Rattle.rules.specs.declared.Rounding.{Rounding}
use Rattle.rules.specs.declared.Rounding.TheVariants.{HalfAway}
use Rattle.rules.specs.Words.{count, same}
use Rattle.rules.specs.Roles.{is_digit}
use Rattle.rules.specs.Form.{Form}
use Rattle.rules.specs.Shape.{digit_count, digits_fit, most_digits, places, whole}
use Rattle.rules.specs.Digits.{Digits, value_of}
use Rattle.rules.specs.Edit.{aligned, edited, field, has_sign, in_range, is_minus, is_negative, most_scale, signed, too_big}
use Rattle.rules.specs.Read.{Edits, ReadsAs}
use Rattle.rules.specs.Candidate.{Fits, digit_in, minus_fits, read_of, shown, shown_in, worth_of}
use Rattle.rules.proofs.Digits.{ten_le, ten_pos, value_digits, value_lt}
use Rattle.rules.proofs.Quotient.{quotient_exact}
use Rattle.rules.proofs.Characters.{digit_small}
use Rattle.rules.proofs.Fields.{shown_field}
use Rattle.rules.proofs.Forms.{Good}
use Rattle.rules.proofs.Lists.{count_split, eq_same, same_eq}
use Rattle.rules.proofs.Logic.{both, by_test, neither, side}
use Rattle.rules.proofs.Sound.{sound}
use Rattle.rules.proofs.Unique.{unique}

pub shown_length : (rs f : List ℕ) → length (shown_in rs f) ≡ count is_digit rs
unfolding shown_in count
shown_length [] f = refl
shown_length (r ∷ rs) f =
    let ih = shown_length rs (drop 1 f) in
    ⊎_elim (λ (e : is_digit r ≡ true). rw e (ap suc ih)) (λ (e : is_digit r ≡ false). rw e ih) (side (is_digit r))

pub shown_digits : (rs f : List ℕ) → Digits (shown_in rs f)
unfolding shown_in
shown_digits [] f k = lit< tt
shown_digits (r ∷ rs) f k =
    let ih = shown_digits rs (drop 1 f) in
    ⊎_elim (λ (e : is_digit r ≡ true). rw e (head k ih)) (λ (e : is_digit r ≡ false). rw e (ih k)) (side (is_digit r))
  where
    head : (k : ℕ) → Digits (shown_in rs (drop 1 f)) → get_or (digit_in (get_or f 0 0) ∷ shown_in rs (drop 1 f)) k 0 < 10
    head zero ih = digit_small _
    head (suc k) ih = ih k

-- what the digits shown are worth fits
pub shown_small : (rs f : List ℕ) → value_of (shown_in rs f) < 10 ^ count is_digit rs
shown_small rs f = let l = value_lt (shown_in rs f) (shown_digits rs f) in rw (shown_length rs f) at l

-- At the picture's own scale there is nothing to round: the aligned magnitude is the magnitude in either mode, and what VALUE and SIZE ask is that it fits.
module _ (φ : Form) where
  pub digit_sum : whole φ + places φ ≡ digit_count φ
  unfolding whole places
  digit_sum = count_split is_digit φ.vee φ.roles

  pub above : (m : ℤ) → is_negative m ≡ true → 0 < nat_abs m
  above (pos n) e = absurd (true≢false (sym e))
  above (negsuc n) e = omega arith

  module _ (w : Rounding) where
    pub own_aligned : (m : ℤ) → aligned w φ m (places φ) ≡ nat_abs m
    unfolding aligned
    own_aligned m = quotient_exact w (nat_abs m) (10 ^ places φ) (ten_pos (places φ))

    pub own_minus : (m : ℤ) → is_minus w φ m (places φ) ≡ is_negative m
    unfolding is_minus
    own_minus (pos n) = refl
    own_minus (negsuc n) = rw (own_aligned (negsuc n), ne_eqb (suc n) 0 (λ q. omega arith))

    pub own_big : (m : ℤ) → too_big w φ m (places φ) ≡ (leb (10 ^ digit_count φ) (nat_abs m) || is_negative m && not (has_sign φ))
    unfolding too_big
    own_big m = rw (own_aligned m, own_minus m)

    pub own_edited : (m : ℤ) → edited w φ m (places φ) ≡ field φ (is_negative m) (nat_abs m)
    unfolding edited
    own_edited m = rw (own_minus m, own_aligned m)

    -- a value that edits to a field fits
    pub edits_fits : (m : ℤ) (f : List ℕ) → Edits w φ m (places φ) f → Fits φ (is_negative m) (nat_abs m)
    edits_fits m f e =
        let s = neither (leb (10 ^ digit_count φ) (nat_abs m)) _ (sym (own_big m) ∙ e.size) in
        record { small = leb-false _ _ s.0; sign = λ n. (above m n, not-false _ (rw n at s.1)) }

    -- and what fits edits to its field
    pub fits_edits : digits_fit φ ≡ true → (m : ℤ) → Fits φ (is_negative m) (nat_abs m) → Edits w φ m (places φ) (field φ (is_negative m) (nat_abs m))
    unfolding in_range digits_fit
    fits_edits d m p =
        let n = leb-true (digit_count φ) most_digits (both (leb 1 (digit_count φ)) _ d).1 in
        let a : nat_abs m < 10 ^ most_digits = omega (arith, p.small, ten_le (digit_count φ) most_digits n) in
        let b : places φ ≤ most_scale = omega (arith, digit_sum) in
        let signless : (is_negative m && not (has_sign φ)) ≡ false = by_test (is_negative m) (λ e. rw ((p.sign e).1, and-false (is_negative m))) (λ e. rw e) in
        record {
          value = rw (lt-ltb _ _ a) (le-leb _ _ b);
          size = own_big m ∙ rw (lt-leb _ _ p.small) signless;
          field = own_edited m;
        }

-- RULES 4.2, the uniqueness: of an accepted picture, two values at its own scale with one field are equal
same_value : (m n : ℤ) → is_negative m ≡ is_negative n → nat_abs m ≡ nat_abs n → m ≡ n
same_value (pos m) (pos n) s e = ap pos e
same_value (negsuc m) (negsuc n) s e = ap negsuc (omega arith)
same_value (pos m) (negsuc n) s e = absurd (true≢false (sym s))
same_value (negsuc m) (pos n) s e = absurd (true≢false s)

module _ (φ : Form) (g : Good φ) where
  pub edits_one : (v w : Rounding) (m n : ℤ) (f : List ℕ) → Edits v φ m (places φ) f → Edits w φ n (places φ) f → m ≡ n
  edits_one v w m n f p q =
      let e = sym (own_edited φ v m) ∙ p.field ∙ sym q.field ∙ own_edited φ w n in
      let u = unique φ (sound φ g) _ _ _ _ (edits_fits φ v m f p) (edits_fits φ w n f q) e in
      same_value m n u.0 u.1

  -- so what a field says is one thing
  pub reads_one : (f : List ℕ) (o p : Option ℤ) → ReadsAs φ f o → ReadsAs φ f p → o ≡ p
  reads_one f none none a b = refl
  reads_one f none (some n) a b = absurd (a n b)
  reads_one f (some m) none a b = absurd (b m a)
  reads_one f (some m) (some n) a b = ap some (edits_one HalfAway HalfAway m n f a b)

-- The candidate decides.
module _ (φ : Form) (f : List ℕ) where
  -- no other magnitude can have this field
  found : (m : ℤ) → Edits HalfAway φ m (places φ) f → nat_abs m ≡ worth_of φ f
  unfolding worth_of
  found m e =
      let p = edits_fits φ HalfAway m f e in
      sym (value_digits _ _ p.small) ∙ ap value_of (sym (shown_field φ _ (nat_abs m)) ∙ ap (λ (g : List ℕ). shown φ g) (sym (own_edited φ HalfAway m) ∙ e.field))

  worth_small : worth_of φ f < 10 ^ digit_count φ
  unfolding worth_of
  worth_small = shown_small φ.roles f

  minus_parts : (t : ℕ) → minus_fits φ t ≡ true → (0 < t) × (has_sign φ ≡ true)
  unfolding minus_fits
  minus_parts t e = let w = both (ltb 0 t) _ e in (ltb-true 0 t w.0, w.1)

  minus_fits_lem : (t : ℕ) → 0 < t → has_sign φ ≡ true → minus_fits φ t ≡ true
  unfolding minus_fits
  minus_fits_lem t l h = rw (lt-ltb 0 t l) h

  -- a value with this field has it with its own sign
  own_field : (m : ℤ) → Edits HalfAway φ m (places φ) f → field φ (is_negative m) (worth_of φ f) ≡ f
  own_field m e = ap (λ (t : ℕ). field φ (is_negative m) t) (sym (found m e)) ∙ sym (own_edited φ HalfAway m) ∙ e.field

  -- neither with plus nor with minus: no value has it
  none_reads : same (field φ false (worth_of φ f)) f ≡ false → (minus_fits φ (worth_of φ f) && same (field φ true (worth_of φ f)) f) ≡ false → (m : ℤ) → Edits HalfAway φ m (places φ) f → ⊥
  none_reads a b (pos n) e = true≢false (sym (eq_same _ _ (own_field (pos n) e)) ∙ a)
  none_reads a b (negsuc n) e =
      let p = rw (found (negsuc n) e) at ((edits_fits φ HalfAway (negsuc n) f e).sign refl) in
      let c = minus_fits_lem (worth_of φ f) p.0 p.1 in
      true≢false (sym (rw c (eq_same _ _ (own_field (negsuc n) e))) ∙ b)

  -- with the sign under which it has this field, a magnitude that fits edits to it
  pub signed_edits : digits_fit φ ≡ true → (negative : Bool) (t : ℕ) → Fits φ negative t → field φ negative t ≡ f → Edits HalfAway φ (signed negative t) (places φ) f
  signed_edits d false t p e = rw (← e) (fits_edits φ HalfAway d (pos t) p)
  signed_edits d true zero p e = let z : ⊥ = omega (arith, (p.sign refl).0) in absurd z
  signed_edits d true (suc n) p e = rw (← e) (fits_edits φ HalfAway d (negsuc n) p)

  pub reads_of : digits_fit φ ≡ true → ReadsAs φ f (read_of φ f)
  unfolding read_of
  reads_of d =
      by_test (same (field φ false (worth_of φ f)) f)
      (λ e. rw e (signed_edits d false (worth_of φ f) (record { small = worth_small; sign = λ n. absurd (true≢false (sym n)) }) (same_eq _ _ e)))
      (λ e. by_test (minus_fits φ (worth_of φ f) && same (field φ true (worth_of φ f)) f)
      (λ q.
      let w = both (minus_fits φ (worth_of φ f)) _ q in
      let v : (0 < worth_of φ f) × (has_sign φ ≡ true) = minus_parts (worth_of φ f) w.0 in
      rw (e, q) (signed_edits d true (worth_of φ f) (record { small = worth_small; sign = λ n. v }) (same_eq _ _ w.1)))
      (λ q. rw (e, q) (none_reads e q)))
