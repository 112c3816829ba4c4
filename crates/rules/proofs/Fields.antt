-- The field of a sign and a magnitude: its length, and that the digits which it shows are the magnitude's. Assumes nothing.
use mathlib.Core.Path.{◌≡◌, refl, sym, ◌∙◌, ap}
use mathlib.Core.Bool.{Bool, true, false}
use mathlib.Core.List.{List, [], ◌∷◌}
use mathlib.Core.Logic.{⊎_elim}
use Prim.Native.Nat.{ℕ, suc, ◌^◌, ◌<◌}
use native.Mathlib.Omega.{arith}
use borrow.Author.Tests.{eqb-true}
use lib.ListN.{length, get_or, take, drop}
use Rattle.rules.specs.Words.{count}
use Rattle.rules.specs.Search.{up_to}
use Rattle.rules.specs.Text.{next}
use Rattle.rules.specs.Roles.{is_digit}
use Rattle.rules.specs.Form.{Form, role_at, size}
use Rattle.rules.specs.Shape.{digit_count}
use Rattle.rules.specs.Digits.{digits_of, value_of}
use Rattle.rules.specs.Edit.{all_suppressible, cell_at, digit_at, field, is_blank, suppressed}
use Rattle.rules.specs.Candidate.{digit_in, shown, shown_in}
use Rattle.rules.proofs.Search.{get_d_up_to, length_up_to}
use Rattle.rules.proofs.Digits.{digits_digits, digits_length, digits_zero, ten_pos, value_digits}
use Rattle.rules.proofs.Characters.{hidden_shows, none_shows}
use Rattle.rules.proofs.Logic.{both, side}
use Rattle.rules.proofs.Stretch.{cell_shows}

pub tail_at : (f : List ℕ) (k : ℕ) → get_or (drop 1 f) k 0 ≡ get_or f (suc k) 0
tail_at [] k = refl
tail_at (c ∷ f) k = refl

-- a field that shows each digit at its position shows the digits
abbrev pub Shows : List ℕ → List ℕ → List ℕ → Type 0
Shows rs f ds = (k : ℕ) → k < length rs → is_digit (get_or rs k 0) ≡ true → digit_in (get_or f k 0) ≡ get_or ds (count is_digit (take k rs)) 0

pub shows : (rs f ds : List ℕ) → length ds ≡ count is_digit rs → Shows rs f ds → shown_in rs f ≡ ds
unfolding shown_in count
shows [] f [] l h = refl
shows [] f (d ∷ ds) l h = let z : ⊥ = omega arith in absurd z
shows (r ∷ rs) f ds l h =
    let next : (es : List ℕ) → length es ≡ count is_digit rs → Shows rs (drop 1 f) es → shown_in rs (drop 1 f) ≡ es = λ es. shows rs (drop 1 f) es in
    ⊎_elim (λ e. digit ds e l h next) (λ e. rw e (next ds (rw e at l) (λ k b q. rw (tail_at f k) (rw e at (h (suc k) (omega arith) q))))) (side (is_digit r))
  where
    digit : (ds : List ℕ) → is_digit r ≡ true → length ds ≡ count is_digit (r ∷ rs) → Shows (r ∷ rs) f ds
        → ((es : List ℕ) → length es ≡ count is_digit rs → Shows rs (drop 1 f) es → shown_in rs (drop 1 f) ≡ es) → shown_in (r ∷ rs) f ≡ ds
    digit [] e l h next = let q : 0 ≡ suc (count is_digit rs) = rw e at l in let z : ⊥ = omega arith in absurd z
    digit (d ∷ ds) e l h next =
        let q : suc (length ds) ≡ suc (count is_digit rs) = rw e at l in
        let rest = next ds (omega arith) (λ k b q. rw (tail_at f k) (rw e at (h (suc k) (omega arith) q))) in
        rw (e, rest, h 0 (omega arith) e)

module _ (φ : Form) where
  pub field_blank : (neg : Bool) (t : ℕ) → is_blank φ t ≡ true → field φ neg t ≡ up_to (size φ) (λ k. suppressed φ.kind (role_at φ k))
  unfolding field
  field_blank neg t e = rw e

  pub field_cells : (neg : Bool) (t : ℕ) → is_blank φ t ≡ false → field φ neg t ≡ up_to (size φ) (λ k. cell_at φ (digits_of (digit_count φ) t) neg k)
  unfolding field
  field_cells neg t e = rw e

  pub blank_zero : (t : ℕ) → is_blank φ t ≡ true → t ≡ 0
  unfolding is_blank
  blank_zero t e = eqb-true t 0 (both (all_suppressible φ) _ e).1

  -- the digits that an edited field shows are the digits of its value
  pub shown_field : (neg : Bool) (t : ℕ) → shown φ (field φ neg t) ≡ digits_of (digit_count φ) t
  unfolding digit_at
  shown_field neg t =
      shows _ _ _ (digits_length _ t)
      (λ k l e. ⊎_elim
      (λ (b : is_blank φ t ≡ true). rw (field_blank neg t b, get_d_up_to _ _ k l, hidden_shows, blank_zero t b) (sym (digits_zero _ _)))
      (λ (b : is_blank φ t ≡ false). rw (field_cells neg t b, get_d_up_to _ _ k l) (cell_shows φ _ (digits_digits _ t) neg k e))
      (side (is_blank φ t)))

  pub length_field : (neg : Bool) (t : ℕ) → length (field φ neg t) ≡ size φ
  length_field neg t =
      ⊎_elim
      (λ (b : is_blank φ t ≡ true). rw (field_blank neg t b) (length_up_to _ _))
      (λ (b : is_blank φ t ≡ false). rw (field_cells neg t b) (length_up_to _ _))
      (side (is_blank φ t))

  -- a magnitude above 0 has a digit above 0 at some position
  pub all_zero : (t : ℕ) → t < 10 ^ digit_count φ → ((k : ℕ) → k < size φ → is_digit (role_at φ k) ≡ true → digit_at φ (digits_of (digit_count φ) t) k ≡ 0) → t ≡ 0
  unfolding digit_at
  all_zero t l h =
      let none : (u : ℕ) → ((k : ℕ) → k < size φ → is_digit (role_at φ k) ≡ true → digit_at φ (digits_of (digit_count φ) u) k ≡ 0) → shown_in φ.roles [] ≡ digits_of (digit_count φ) u
      = λ u z. shows _ [] _ (digits_length _ u) (λ k b e. none_shows ∙ sym (z k b e)) in
      let e : digits_of (digit_count φ) t ≡ digits_of (digit_count φ) 0 = sym (none t h) ∙ none 0 (λ k b q. digits_zero _ _) in
      sym (value_digits _ t l) ∙ ap value_of e ∙ value_digits _ 0 (ten_pos _)
