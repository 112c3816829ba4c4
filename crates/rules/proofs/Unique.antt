-- Two values with one field are equal: the digits shown give the magnitude, and where it is above 0 the two forms of the sign differ at a
-- position outside the stretch, or at the drifting character. Assumes nothing.
use mathlib.Core.Path.{◌≡◌, refl, sym, ◌∙◌, ap}
use mathlib.Core.Bool.{Bool, true, false, true≢false, ◌&&◌, and-false}
use mathlib.Core.List.{List}
use mathlib.Core.Logic.{⊎_elim}
use Prim.Native.Nat.{ℕ, ◌^◌, ◌<◌, ◌≤◌}
use native.Mathlib.Omega.{arith}
use borrow.Author.Tests.{lt-leb, le-ltb, ne_eqb}
use lib.Dec.{leb, ltb}
use lib.ListN.{get_or}
use Rattle.rules.specs.Words.{any}
use Rattle.rules.specs.Search.{first}
use Rattle.rules.specs.Roles.{is_digit, is_sign}
use Rattle.rules.specs.Form.{Form, role_at, size}
use Rattle.rules.specs.Shape.{digit_count}
use Rattle.rules.specs.Digits.{digits_of, value_of}
use Rattle.rules.specs.Edit.{all_suppressible, cell, cell_at, digit_at, drifts_to, field, has_sign, in_stretch, is_blank, opening, start}
use Rattle.rules.specs.Candidate.{Fits, shown}
use Rattle.rules.proofs.Search.{any_first, first_holds, get_d_up_to}
use Rattle.rules.proofs.Digits.{digits_digits, value_digits}
use Rattle.rules.proofs.Characters.{mark_differs, printed_differs, sign_drifts, sign_nine}
use Rattle.rules.proofs.Fields.{all_zero, field_cells, shown_field}
use Rattle.rules.proofs.Logic.{by_or, by_test, lt_or_le}
use Rattle.rules.proofs.Sound.{Sound}
use Rattle.rules.proofs.Stretch.{drifts_below, drifts_cell, early}

module _ (φ : Form) (s : Sound φ) where
  module _ (t : ℕ) (small : t < 10 ^ digit_count φ) (some : 0 < t) where
    -- a sign that does not drift stands outside the stretch: one punched over a digit since that is a nine
    sign_outside : (k : ℕ) → k < size φ → is_sign (role_at φ k) ≡ true → in_stretch φ (digits_of (digit_count φ) t) k ≡ false
    unfolding in_stretch
    sign_outside k l e =
        let ds = digits_of (digit_count φ) t in
        let behind : (k < start φ ds → ⊥) → (leb (opening φ) k && ltb k (start φ ds)) ≡ false = λ late. rw (le-ltb k (start φ ds) (omega arith)) (and-false (leb (opening φ) k)) in
        by_test (is_digit (role_at φ k))
        (λ d. behind (λ b. true≢false (sym (sign_nine _ (s.known k l) e d) ∙ (early φ ds k b d).1)))
        (λ d. ⊎_elim
        (λ (b : k < opening φ). rw (lt-leb (opening φ) k b))
        (λ (h : (j : ℕ) → k ≤ j → j < size φ → is_digit (role_at φ j) ≡ false). behind (λ b.
        let z = all_zero φ t small (λ j m q. ⊎_elim
        (λ (n : j < k). (early φ ds j (omega arith) q).0)
        (λ (n : k ≤ j). absurd (true≢false (sym q ∙ h j n m))) (lt_or_le j k)) in omega arith))
        (s.apart k l e d))

    cells_differ : (k : ℕ) → k < size φ → (cell_at φ (digits_of (digit_count φ) t) true k ≡ cell_at φ (digits_of (digit_count φ) t) false k → ⊥) → field φ true t ≡ field φ false t → ⊥
    unfolding is_blank
    cells_differ k l n e =
        let b : is_blank φ t ≡ false = rw (ne_eqb t 0 (λ q. omega arith)) (and-false (all_suppressible φ)) in
        n (sym (get_d_up_to _ _ k l) ∙ ap (λ (f : List ℕ). get_or f k 0) (sym (field_cells φ true t b) ∙ e ∙ field_cells φ false t b) ∙ get_d_up_to _ _ k l)

    pub signs_differ : has_sign φ ≡ true → field φ true t ≡ field φ false t → ⊥
    unfolding has_sign cell_at cell digit_at
    signs_differ e =
        let ds = digits_of (digit_count φ) t in
        let k = first (λ j. is_sign (role_at φ j)) (size φ) in
        by_or (any is_sign φ.roles) _ e
        (λ h.
        let l = any_first is_sign φ.roles h in
        let g = first_holds (λ j. is_sign (role_at φ j)) (size φ) l in
        cells_differ k l (λ q. printed_differs (role_at φ k) (digit_at φ ds k) (s.known k l) (digits_digits _ t _) g (rw (sign_outside k l g) at q)))
        (λ h.
        let d = sign_drifts φ.kind h in
        cells_differ (drifts_to φ ds) (drifts_below φ ds s d)
        (λ q. mark_differs φ.kind h (sym (drifts_cell φ ds s d true) ∙ q ∙ drifts_cell φ ds s d false)))

  pub unique : (m n : Bool) (t u : ℕ) → Fits φ m t → Fits φ n u → field φ m t ≡ field φ n u → (m ≡ n) × (t ≡ u)
  unique m n t u p q e =
      let same : t ≡ u = sym (value_digits _ t p.small) ∙ ap value_of (sym (shown_field φ m t) ∙ ap (λ (f : List ℕ). shown φ f) e ∙ shown_field φ n u) ∙ value_digits _ u q.small in
      (signs m n p.sign q.sign (e ∙ ap (λ (v : ℕ). field φ n v) (sym same)) same, same)
    where
      signs : (m n : Bool) → (m ≡ true → (0 < t) × (has_sign φ ≡ true)) → (n ≡ true → (0 < u) × (has_sign φ ≡ true)) → field φ m t ≡ field φ n t → t ≡ u → m ≡ n
      signs true true a b e g = refl
      signs false false a b e g = refl
      signs true false a b e g = absurd (signs_differ t p.small (a refl).0 (a refl).1 e)
      signs false true a b e g = absurd (signs_differ t p.small (rw g (b refl).0) (b refl).1 (sym e))
