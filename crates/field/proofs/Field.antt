-- What is written is the field: by the table of crate roles, and of a magnitude with no more digits than the
-- form, the character at each position is that of RULES 3. Assumes nothing.
use mathlib.Core.Path.{◌≡◌, sym, ◌∙◌}
use mathlib.Core.Bool.{Bool, true, false, true≢false, and-false, or-true}
use mathlib.Core.List.{List}
use Prim.Native.Nat.{ℕ, ◌^◌, ◌<◌}
use native.Mathlib.Omega.{arith}
use borrow.Author.Tests.{eqb-true}
use lib.Dec.{eqb}
use lib.ListN.{length}
use Rattle.rules.specs.Digits.{digits_of}
use Rattle.rules.specs.Roles.{drifts, is_b, is_bare, is_digit, is_nine, is_punched}
use Rattle.rules.specs.Form.{Form, role_at, size}
use Rattle.rules.specs.Shape.{digit_count}
use Rattle.rules.specs.Edit.{cell, cell_at, drifts_to, field, in_stretch, is_blank, opening, printed, start, suppressed}
use Rattle.rules.proofs.Characters.{printed_bare, printed_mark, printed_punched}
use Rattle.rules.proofs.Fields.{field_blank, field_cells}
use Rattle.rules.proofs.Logic.{both, by_test}
use Rattle.rules.proofs.Search.{length_up_to, up_to_same}
use Rattle.rules.proofs.Stretch.{drifts_in, stretch_from, stretch_to}
use Rattle.roles.specs.Table.{characters}
use Rattle.roles.proofs.ByTable.{figure_by_lem, mark_by_lem}
use Rattle.field.specs.Results.{field_by, printed_at, printed_by, shown_at}
use Rattle.field.proofs.Hiding.{digit_due, hidden_is, spot_is}

pub length_by : (table : List ℕ) (φ : Form) (negative : Bool) (t : ℕ) → length (field_by table φ negative t) ≡ size φ
unfolding field_by
length_by table φ negative t = by_test (is_blank φ t) (λ e. rw e (length_up_to _ (size φ))) (λ e. rw e (length_up_to _ (size φ)))

pub punched_digit : (r : ℕ) → is_punched r ≡ true → is_digit r ≡ true
unfolding is_digit is_nine
punched_digit r p = rw (p, or-true (eqb r 0))

-- by this table a position prints what the rules say; the digit counts where there is one
printed_by_lem : (r : ℕ) (negative : Bool) (d e : ℕ) → d < 10 → (is_digit r ≡ true → e ≡ d) → printed_by characters r negative d ≡ printed r negative e
unfolding printed_by is_bare
printed_by_lem r negative d e l q =
    by_test (is_bare r)
    (λ b. rw (b, q (both (is_digit r) _ b).0) (sym (printed_bare r negative d b l)))
    (λ b. by_test (is_punched r)
    (λ p. rw (b, p, figure_by_lem r negative d l, q (punched_digit r p)) (sym (printed_punched r negative d p)))
    (λ p. rw (b, p, mark_by_lem r negative) (sym (printed_mark r negative e b p))))

module _ (φ : Form) (negative : Bool) (t : ℕ) (small : t < 10 ^ digit_count φ) where
  abbrev ds : List ℕ
  ds = digits_of (digit_count φ) t

  -- inside the stretch no B has the drifting character
  no_b : (k : ℕ) → in_stretch φ ds k ≡ true → is_b (role_at φ k) ≡ true → eqb k (drifts_to φ ds) ≡ false
  no_b k i b =
      let l : opening φ < start φ ds = omega (arith, stretch_from φ ds k i, stretch_to φ ds k i) in
      by_test (eqb k (drifts_to φ ds)) (λ e. absurd (true≢false (sym b ∙ rw (eqb-true k _ e) (drifts_in φ ds l).0))) (λ e. e)

  shown_cell : (k : ℕ) → k < size φ → shown_at characters φ negative t k ≡ cell_at φ ds negative k
  unfolding shown_at cell_at cell suppressed printed_at
  shown_cell k h =
      by_test (in_stretch φ ds k)
      (λ i.
      let l : opening φ < start φ ds = omega (arith, stretch_from φ ds k i, stretch_to φ ds k i) in
      by_test (is_b (role_at φ k))
      (λ b. rw (hidden_is φ t small k h, i, b, no_b k i b, and-false (drifts φ.kind)))
      (λ b. rw (hidden_is φ t small k h, i, b, spot_is φ t small l, mark_by_lem φ.kind negative)))
      (λ i. rw (hidden_is φ t small k h, i) (printed_by_lem (role_at φ k) negative _ _ (omega arith) (λ d. digit_due φ t small k h d)))

  pub field_by_lem : field_by characters φ negative t ≡ field φ negative t
  unfolding field_by
  field_by_lem =
      by_test (is_blank φ t)
      (λ e. rw e (sym (field_blank φ negative t e)))
      (λ e. rw e (up_to_same _ _ (size φ) (λ k h. shown_cell k h) ∙ sym (field_cells φ negative t e)))
