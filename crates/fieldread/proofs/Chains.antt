-- What the iterators' contracts say of two lists side by side and of one from its end, in the rules' words. Assumes nothing.
use mathlib.Core.Path.{◌≡◌, refl, sym, ◌∙◌}
use mathlib.Core.Bool.{Bool, true, false, cond, not}
use mathlib.Core.List.{List, [], ◌∷◌, reverse}
use Prim.Native.Nat.{ℕ, ◌+◌, ◌-◌, ◌<◌, ◌≤◌}
use native.Mathlib.Omega.{arith}
use borrow.Author.Tests.{eq-eqb, le-ltb, lt-ltb, ltb-false, ltb-true, ne_eqb}
use lib.Dec.{ltb}
use lib.ListN.{length, get_or}
use Rattle.std.specs.Prelude.{Option, None, Some, is_none, is_some, slice_get}
use Rattle.std.specs.Bool.{MatchBool}
use Rattle.std.specs.Option.{option_map}
use Rattle.std.specs.List.{filter, zip, AllWithin, HoldsAt}
use Rattle.std.proofs.lemmas.List.Sorted.{IsPermutation-reverse, sum_by-IsPermutation}
use Rattle.std.proofs.lemmas.List.Sums.{length-filter}
use Rattle.std.proofs.lemmas.Slice.Zip.{get_or-zip, length-zip}
use Rattle.std.proofs.lemmas.Option.{slice_get-get_or, slice_get_past}
use Rattle.rules.specs.Words.{count, same}
use Rattle.rules.specs.Search.{up_to}
use Rattle.rules.specs.Roles.{is_digit}
use Rattle.rules.specs.Shape.{most_digits}
use Rattle.rules.specs.Edit.{suppressed}
use Rattle.rules.proofs.Library.{count_is}
use Rattle.rules.proofs.Lists.{count_le}
use Rattle.rules.proofs.Logic.{by_test}
use Rattle.fieldread.proofs.Passing.{same_places, so_false, so_true}

-- every place shows what a hidden one does, or some place doesn't
module _ (kind : ℕ) (rs f : List ℕ) (l : length f ≡ length rs) where
  abbrev pub Shows : ℕ × ℕ → Type 0
  Shows x = x.1 ≡ suppressed kind x.0

  places : length (zip rs f) ≡ length rs
  places = omega (arith, length-zip rs f)

  at_place : (k : ℕ) → k < length rs → get_or (zip rs f) k (0, 0) ≡ (get_or rs k 0, get_or f k 0)
  at_place k h = get_or-zip rs f k (0, 0) h (omega arith)

  pub shows_all : (r : Bool) → MatchBool r (AllWithin Shows (zip rs f) 0 (length (zip rs f))) ((k : ℕ) × (k < length (zip rs f)) × HoldsAt (λ x. Shows x → ⊥) (zip rs f) k)
      → r ≡ same (up_to (length rs) (λ k. suppressed kind (get_or rs k 0))) f
  shows_all true all = sym (same_places _ f (length rs) l ∙ so_true _ (length rs) (λ k h. eq-eqb _ _ (sym (rw (at_place k h) at (all k (0, 0) (omega arith) (omega (arith, places)))))))
  shows_all false (k, h, n) =
      let m : k < length rs = omega (arith, places) in
      sym (same_places _ f (length rs) l ∙ so_false _ (length rs) k m (ne_eqb _ _ (λ q. (rw (at_place k m) at (n (0, 0))) (sym q))))

-- what is no digit makes up the rest
count_rest : (rs : List ℕ) → count (λ r. not (is_digit r)) rs + count is_digit rs ≡ length rs
unfolding count
count_rest [] = refl
count_rest (r ∷ rs) = by_test (is_digit r) (λ e. rw e (omega (arith, count_rest rs))) (λ e. rw e (omega (arith, count_rest rs)))

rest_back : (rs : List ℕ) → length (filter (λ r. not (is_digit r)) (reverse rs)) + count is_digit rs ≡ length rs
rest_back rs =
    let e = length-filter (λ r. not (is_digit r)) (reverse rs) ∙ sum_by-IsPermutation (λ r. cond (not (is_digit r)) 1 0) rs (reverse rs) (IsPermutation-reverse rs) ∙ count_is (λ r. not (is_digit r)) rs in
    rw e (count_rest rs)

many_is : (rs : List ℕ) → most_digits < length rs → is_none (slice_get (filter (λ r. not (is_digit r)) (reverse rs)) (length rs - most_digits - 1)) ≡ ltb most_digits (count is_digit rs)
many_is rs h =
    by_test (ltb (length rs - most_digits - 1) (length (filter (λ r. not (is_digit r)) (reverse rs))))
    (λ q. rw (slice_get-get_or _ _ 0 (ltb-true _ _ q)) (sym (le-ltb most_digits (count is_digit rs) (omega (arith, rest_back rs, ltb-true _ _ q)))))
    (λ q. rw (slice_get_past _ _ (ltb-false _ _ q)) (sym (lt-ltb most_digits (count is_digit rs) (omega (arith, rest_back rs, ltb-false _ _ q)))))

none_read : {A B : Type 0} (v : A → B) (o : Option A) → is_none o ≡ is_none (option_map v o)
none_read v None = refl
none_read v (Some x) = refl

none_told : {A : Type 0} (o : Option A) (r : Bool) → is_some o ≡ not r → r ≡ is_none o
none_told None true e = refl
none_told None false e = e
none_told (Some x) true e = e
none_told (Some x) false e = refl

pub many_read : {A : Type 0} (v : A → ℕ) (o : Option A) (r : Bool) (rs : List ℕ) → is_some o ≡ not r → most_digits < length rs
    → option_map v o ≡ slice_get (filter (λ r. not (is_digit r)) (reverse rs)) (length rs - most_digits - 1) → r ≡ ltb most_digits (count is_digit rs)
many_read v o r rs t h e = none_told o r t ∙ none_read v o ∙ rw e (many_is rs h)

pub few_are : (rs : List ℕ) → length rs ≤ most_digits → ltb most_digits (length rs) ≡ ltb most_digits (count is_digit rs)
few_are rs h = le-ltb most_digits (length rs) h ∙ sym (le-ltb most_digits (count is_digit rs) (omega (arith, count_le is_digit rs)))
