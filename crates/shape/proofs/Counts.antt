-- The sum of the weights holds what the rules count: five counts, seven bits each, since no form that is
-- judged has more than 64 positions. Assumes nothing.
use Prim.Native.Nat.{ℕ, zero, suc, ◌+◌, ◌<◌, ◌≤◌}
use mathlib.Core.Path.{◌≡◌, refl, sym, ◌∙◌}
use mathlib.Core.Bool.{Bool, not, or-false}
use mathlib.Core.List.{List, [], ◌∷◌}
use native.Mathlib.Omega.{arith}
use borrow.Author.Tests.{eq-eqb, eqb-true, lt-leb, ltb-true, ltb-false, le-leb, ne_eqb}
use lib.Dec.{eqb, leb, ltb}
use lib.ListN.{get_or}
use Rattle.rules.specs.Words.{any, count, one, times}
use Rattle.rules.specs.Roles.{is_digit, is_first_drifting, is_nine, is_punched, is_sign, is_suppressible, role_limit}
use Rattle.rules.proofs.Logic.{by_test, eqb_swap}
use Rattle.rules.proofs.Search.{get_d_up_to}
use Rattle.shape.specs.declared.machine.Walked.{Walked}
use Rattle.shape.specs.Machine.{column_of, columns, digits_in, dollars_in, drifting_in, is_dollar, summed, signs_in, suppressible_in, walked_all, walked_next, weight_of, weights}

count_more : (p : ℕ → Bool) (r : ℕ) (rs : List ℕ) → count p (r ∷ rs) ≡ one (p r) + count p rs
unfolding count
count_more p r rs = by_test (p r) (λ e. rw e (omega arith)) (λ e. rw e (omega arith))

-- all bytes that are no role weigh the same
weight_out : (r : ℕ) → role_limit ≤ r → weight_of r ≡ 16385
unfolding is_digit is_first_drifting is_nine is_punched is_suppressible is_sign
weight_out r l =
    rw (ne_eqb r 0 (λ q. omega arith), ne_eqb r 1 (λ q. omega arith), ne_eqb r 2 (λ q. omega arith), ne_eqb r 6 (λ q. omega arith), ne_eqb r 11 (λ q. omega arith), ne_eqb r 13 (λ q. omega arith), lt-leb r 5 (omega arith), le-leb 3 r (omega arith), le-leb 15 r (omega arith))

abbrev pub weights_of : List ℕ → ℕ
weights_of rs = summed (count is_digit rs) (count is_suppressible rs) (count is_sign rs) (count is_dollar rs) (count is_first_drifting rs)

weight_at : (r : ℕ) → get_or weights (column_of r) 0 ≡ weight_of r
unfolding column_of weights
weight_at r =
    by_test (ltb r role_limit) (λ e. let h = ltb-true r role_limit e in rw e (get_d_up_to weight_of columns r (omega arith)))
    (λ e. rw (e, weight_out r (ltb-false r role_limit e)) (get_d_up_to weight_of columns role_limit (omega arith) ∙ weight_out role_limit (omega arith)))

pub walked_sum : (next : List ℕ) (w : Walked) (rs : List ℕ) → (walked_all next weights w rs).sum ≡ w.sum + weights_of rs
unfolding walked_all walked_next
walked_sum next w [] = unfold count in omega arith
walked_sum next w (r ∷ rs) =
    walked_sum next (walked_next next weights w r) rs
    ∙ omega (arith, weight_at r, count_more is_digit r rs, count_more is_suppressible r rs, count_more is_sign r rs, count_more is_dollar r rs, count_more is_first_drifting r rs)

-- the counts come back out
module _ (d b g e f : ℕ) (hd : d < 128) (hb : b < 128) (hg : g < 128) (he : e < 128) where
  pub digits_out : digits_in (summed d b g e f) ≡ d
  digits_out = omega arith

  pub suppressible_out : suppressible_in (summed d b g e f) ≡ b
  suppressible_out = omega arith

  pub signs_out : signs_in (summed d b g e f) ≡ g
  signs_out = omega arith

  pub dollars_out : dollars_in (summed d b g e f) ≡ e
  dollars_out = omega arith

  pub drifting_out : drifting_in (summed d b g e f) ≡ f
  drifting_out = omega arith

-- Some has p where the count is 1 or more, and none of the c more where the count stays as it was.
pub any_count : (p : ℕ → Bool) (rs : List ℕ) → any p rs ≡ leb 1 (count p rs)
unfolding any
any_count p [] = unfold count in refl
any_count p (r ∷ rs) =
    by_test (p r) (λ e. rw (count_more p r rs, e) (sym (le-leb 1 (1 + count p rs) (omega arith))))
    (λ e. let z : 0 + count p rs ≡ count p rs = omega arith in rw (count_more p r rs, e, z) (any_count p rs))

pub none_more : (p : ℕ → Bool) (rs : List ℕ) (b : ℕ) → eqb (b + count p rs) b ≡ not (any p rs)
none_more p rs b = rw (any_count p rs) (at (count p rs))
  where
    at : (c : ℕ) → eqb (b + c) b ≡ not (leb 1 c)
    at zero = eq-eqb (b + 0) b (omega arith)
    at (suc c) = rw (ne_eqb (b + suc c) b (λ q. omega arith), le-leb 1 (suc c) (omega arith))

-- nines are the digits that are not suppressible
digit_parts : (r : ℕ) → one (is_digit r) ≡ one (is_suppressible r) + one (is_nine r)
unfolding is_digit is_suppressible
digit_parts r = by_test (eqb r 1) (λ e. rw (eqb-true r 1 e) (unfold is_nine is_punched in refl)) (λ e. rw (e, or-false) (omega arith))

pub digits_parts : (rs : List ℕ) → count is_digit rs ≡ count is_suppressible rs + count is_nine rs
digits_parts [] = unfold count in refl
digits_parts (r ∷ rs) =
    omega (arith, digit_parts r, digits_parts rs, count_more is_digit r rs, count_more is_nine r rs, count_more is_suppressible r rs)

-- $ by its number
pub dollars_times : (rs : List ℕ) → times 6 rs ≡ count is_dollar rs
unfolding times
dollars_times [] = unfold count in refl
dollars_times (r ∷ rs) = rw (count_more is_dollar r rs, dollars_times rs, eqb_swap 6 r)
