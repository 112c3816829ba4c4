-- What `expanded_of` is at each way through `expand`, and what it holds. Assumes nothing.
use Prim.Native.Nat.{ℕ, ◌<◌, ◌≤◌}
use mathlib.Core.Path.{◌≡◌, refl, ap, ◌∙◌}
use mathlib.Core.Bool.{true, false}
use mathlib.Core.List.{List, []}
use mathlib.Core.Option.{Option, none, some}
use native.Mathlib.Omega.{arith}
use borrow.Author.Tests.{le-leb, lt-leb, leb-true}
use lib.Dec.{leb}
use lib.ListN.{length}
use Rattle.std.specs.Prelude.{Ok, Err}
use Rattle.rules.specs.declared.Picture.{Picture}
use Rattle.rules.specs.declared.Refusal.{Refusal}
use Rattle.rules.specs.declared.Refusal.TheVariants.{Text, Symbol, Long}
use Rattle.rules.specs.Numbers.{first_of}
use Rattle.rules.specs.Refusals.{result_number}
use Rattle.rules.specs.Text.{text_fits, expand, is_some, is_spelled, or_none, most_text, most_symbols, symbols_of, room_of}
use Rattle.rules.proofs.Logic.{by_test, both}
use Rattle.text.specs.Expansion.{filled, filled_by, spelled_of, expand_number, expanded_of}
use Rattle.text.proofs.Walk.{filled_room}

-- what a walk that ended well, or not, says of the symbols
well : (p q : Picture) (o : Option (List ℕ)) → Ok q ≡ filled_by p o → (is_some o ≡ true) × (q ≡ filled p (or_none o))
well p q none e = cc
well p q (some xs) e = (refl, cc)

ill : (p : Picture) (r : Refusal) (o : Option (List ℕ)) → Err r ≡ filled_by p o → (is_some o ≡ false) × (r ≡ Symbol)
ill p r none e = (refl, cc)
ill p r (some xs) e = cc

module _ (t : List ℕ) where
  -- the number of the outcome, and the symbols that it holds
  pub expanded_number : result_number (expanded_of t) ≡ expand_number t
  unfolding expanded_of expand_number first_of
  expanded_number =
      by_test (text_fits t)
      (λ e. rw e (by_test (is_spelled t)
      (λ q. rw q (by_test (leb (length (symbols_of t)) most_symbols) (λ l. rw l) (λ l. rw l)))
      (λ q. rw q)))
      (λ e. rw e)

  pub expanded_symbols : (p : Picture) → expanded_of t ≡ Ok p → p ≡ room_of (symbols_of t)
  unfolding expanded_of
  expanded_symbols p h =
      by_test (text_fits t)
      (λ e. let h = rw e at h in by_test (is_spelled t)
      (λ q. let h = rw q at h in by_test (leb (length (symbols_of t)) most_symbols) (λ l. let h = rw l at h in cc) (λ l. let h = rw l at h in cc))
      (λ q. let h = rw q at h in cc))
      (λ e. let h = rw e at h in cc)

  pub ill_fitting : text_fits t ≡ false → Err Text ≡ expanded_of t
  unfolding expanded_of
  ill_fitting h = rw h

  module _ (f : text_fits t ≡ true) where
    pub fits : length t ≤ most_text
    unfolding text_fits
    fits = leb-true (length t) most_text (both _ _ f).1

    pub ill_spelled : (r : Refusal) → Err r ≡ spelled_of t → Err r ≡ expanded_of t
    unfolding expanded_of spelled_of
    ill_spelled r e = let w = ill (room_of []) r (expand t) e in rw (f, w.0, w.1)

    module _ (p : Picture) (e : Ok p ≡ spelled_of t) where
      spelled : (is_spelled t ≡ true) × (p ≡ filled (room_of []) (symbols_of t))
      unfolding spelled_of
      spelled = well (room_of []) p (expand t) e

      count_is : p.count ≡ length (symbols_of t)
      unfolding filled room_of
      count_is = rw spelled.1 (omega arith)

      pub too_many : 64 < p.count → Err Long ≡ expanded_of t
      unfolding expanded_of
      too_many h = rw (f, spelled.0, lt-leb (length (symbols_of t)) most_symbols (omega (arith, count_is)))

      pub all_fits : p.count ≤ 64 → Ok p ≡ expanded_of t
      unfolding expanded_of
      all_fits h =
          let l : length (symbols_of t) ≤ most_symbols = omega (arith, count_is) in
          rw (f, spelled.0, le-leb (length (symbols_of t)) most_symbols l) (ap Ok (spelled.1 ∙ filled_room (symbols_of t) l))
