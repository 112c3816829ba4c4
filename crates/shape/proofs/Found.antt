-- By the judge's tables the pass finds what the rules say: the phases at V and at the end decide the rules
-- that the machine holds, the sums the others, one count a rule. Assumes nothing.
use Prim.Native.Nat.{ℕ, ◌+◌, ◌<◌, ◌≤◌}
use mathlib.Core.Path.{◌≡◌, refl, sym, ap, ◌∙◌}
use mathlib.Core.Bool.{Bool, false, not, ◌&&◌, ◌||◌, and_assoc}
use mathlib.Core.List.{List}
use native.Mathlib.Omega.{arith}
use borrow.Author.Tests.{leb-true}
use lib.Dec.{eqb, leb}
use lib.ListN.{take, drop}
use Rattle.rules.specs.Words.{any, count, one}
use Rattle.rules.specs.Text.{most_symbols}
use Rattle.rules.specs.Roles.{drifts_sign, is_digit, is_first_drifting, is_nine, is_sign, is_suppressible}
use Rattle.rules.specs.Form.{Form, size}
use Rattle.rules.specs.Shape.{digits_fit, drifts_before_v, form_shape, nines_last, one_sign, statics_placed, suppressed_places}
use Rattle.rules.specs.Good.{bears, good, in_order, marks_last, one_dollar}
use Rattle.rules.proofs.Lists.{count_le, count_split}
use Rattle.rules.proofs.Logic.{by_test, eqb_swap}
use Rattle.rules.proofs.Spelling.{one_le}
use Rattle.shape.specs.Judge.{judged_of, ruled}
use Rattle.shape.specs.Machine.{born_out, digits_in, dollars_in, drifting_in, found_by, found_in, good_by, is_dollar, machine, summed, seen_all, seen_none, signs_in, started, suppressible_in, unbroken, walked_on, walked_to, weights}
use Rattle.shape.proofs.OnePass.{and_swap, seen_split, whole_judged}
use Rattle.shape.proofs.Phases.{none_sane, phase_unbroken, walked_phase}
use Rattle.shape.proofs.Verdict.{judged_good}
use Rattle.shape.proofs.Counts.{any_count, digits_out, digits_parts, dollars_out, dollars_times, drifting_out, none_more, signs_out, suppressible_out, walked_sum}

module _ (φ : Form) where
  abbrev front : List ℕ
  front = take φ.vee φ.roles

  abbrev back : List ℕ
  back = drop φ.vee φ.roles

  -- the phases, at V and at the end
  phases_found : (leb unbroken (walked_to machine weights φ).phase && leb unbroken (walked_on machine weights φ).phase)
      ≡ (in_order (leb φ.kind 2) φ.roles && (nines_last φ.roles && (statics_placed false φ.roles && marks_last φ.vee φ.roles)))
  phases_found =
      let none = seen_none φ.kind in
      let at = walked_phase weights none (started φ.kind) front (none_sane φ.kind) (unfold started in refl) in
      let end = walked_phase weights (seen_all none front) (walked_to machine weights φ) back at.1 at.0 in
      rw (end.0, at.0, phase_unbroken (seen_all none front), sym (seen_split none φ.vee φ.roles), phase_unbroken (seen_all none φ.roles))
      (whole_judged φ.kind φ.vee φ.roles)

  -- the sums
  abbrev drifted : ℕ
  drifted = one (drifts_sign φ.kind)

  abbrev dollar : ℕ
  dollar = one (is_dollar φ.kind)

  sum_at : (walked_to machine weights φ).sum
      ≡ summed (count is_digit front) (count is_suppressible front) (count is_sign front + drifted) (count is_dollar front + dollar) (count is_first_drifting front)
  unfolding started
  sum_at = omega (arith, walked_sum machine (started φ.kind) front)

  sum_end : (walked_on machine weights φ).sum
      ≡ summed (count is_digit φ.roles) (count is_suppressible φ.roles) (count is_sign φ.roles + drifted) (count is_dollar φ.roles + dollar)
      (count is_first_drifting φ.roles)
  sum_end =
      omega (
        arith,
        sum_at,
        walked_sum machine (walked_to machine weights φ) back,
        count_split is_digit φ.vee φ.roles,
        count_split is_suppressible φ.vee φ.roles,
        count_split is_sign φ.vee φ.roles,
        count_split is_dollar φ.vee φ.roles,
        count_split is_first_drifting φ.vee φ.roles,
      )

  module _ (short : size φ ≤ most_symbols) where
    few : (p : ℕ → Bool) (q : Bool) → count p φ.roles + one q < 128
    few p q = omega (arith, count_le p φ.roles, one_le q)

    fewer : (p : ℕ → Bool) (q : Bool) → count p front + one q < 128
    fewer p q = omega (arith, few p q, count_split p φ.vee φ.roles)

    -- a count that a sum holds, at the end and at V
    abbrev Out : (ℕ → ℕ) → (ℕ → ℕ → ℕ → ℕ → ℕ → ℕ) → Type 0
    Out inSum part = (d b g e f : ℕ) → d < 128 → b < 128 → g < 128 → e < 128 → inSum (summed d b g e f) ≡ part d b g e f

    at_end : (inSum : ℕ → ℕ) (part : ℕ → ℕ → ℕ → ℕ → ℕ → ℕ) → Out inSum part
        → inSum (walked_on machine weights φ).sum
        ≡ part (count is_digit φ.roles) (count is_suppressible φ.roles) (count is_sign φ.roles + drifted) (count is_dollar φ.roles + dollar)
        (count is_first_drifting φ.roles)
    at_end inSum part out =
        ap inSum sum_end
        ∙ out _ _ _ _ _ (omega (arith, few is_digit false)) (omega (arith, few is_suppressible false)) (few is_sign (drifts_sign φ.kind))
        (few is_dollar (is_dollar φ.kind))

    at_v_lem : (inSum : ℕ → ℕ) (part : ℕ → ℕ → ℕ → ℕ → ℕ → ℕ) → Out inSum part
        → inSum (walked_to machine weights φ).sum
        ≡ part (count is_digit front) (count is_suppressible front) (count is_sign front + drifted) (count is_dollar front + dollar) (count is_first_drifting front)
    at_v_lem inSum part out =
        ap inSum sum_at
        ∙ out _ _ _ _ _ (omega (arith, fewer is_digit false)) (omega (arith, fewer is_suppressible false)) (fewer is_sign (drifts_sign φ.kind))
        (fewer is_dollar (is_dollar φ.kind))

    digits_end : digits_in (walked_on machine weights φ).sum ≡ count is_digit φ.roles
    digits_end = at_end digits_in (λ d b g e f. d) digits_out

    suppressible_end : suppressible_in (walked_on machine weights φ).sum ≡ count is_suppressible φ.roles
    suppressible_end = at_end suppressible_in (λ d b g e f. b) suppressible_out

    -- The rules that are counts.
    sign_found : leb (signs_in (walked_on machine weights φ).sum) 1 ≡ one_sign φ
    unfolding one_sign
    sign_found = rw (at_end signs_in (λ d b g e f. g) signs_out)

    dollar_found : leb (dollars_in (walked_on machine weights φ).sum) 1 ≡ one_dollar φ
    unfolding one_dollar
    dollar_found = rw (at_end dollars_in (λ d b g e f. e) dollars_out, dollars_times φ.roles)

    bears_found : born_out φ.kind (leb 1 (suppressible_in (walked_on machine weights φ).sum)) ≡ bears φ.kind φ.roles
    unfolding bears
    bears_found = rw (suppressible_end, any_count is_suppressible φ.roles)

    -- none of these stands behind V
    none_behind : (p : ℕ → Bool) → eqb (count p φ.roles) (count p front) ≡ not (any p back)
    none_behind p = ap (λ n. eqb n (count p front)) (sym (count_split p φ.vee φ.roles)) ∙ none_more p back (count p front)

    drift_found : eqb (drifting_in (walked_on machine weights φ).sum) (drifting_in (walked_to machine weights φ).sum) ≡ drifts_before_v φ
    unfolding drifts_before_v
    drift_found = rw (at_end drifting_in (λ d b g e f. f) drifting_out, at_v_lem drifting_in (λ d b g e f. f) drifting_out) (none_behind is_first_drifting)

    places_found : (eqb (suppressible_in (walked_on machine weights φ).sum) (suppressible_in (walked_to machine weights φ).sum)
        || eqb (suppressible_in (walked_on machine weights φ).sum) (digits_in (walked_on machine weights φ).sum))
        ≡ suppressed_places φ
    unfolding suppressed_places
    places_found =
        let b = count is_suppressible φ.roles in
        let nines : eqb b (count is_digit φ.roles) ≡ not (any is_nine φ.roles) =
        ap (eqb b) (digits_parts φ.roles) ∙ eqb_swap b (b + count is_nine φ.roles) ∙ none_more is_nine φ.roles b in
        rw (suppressible_end, at_v_lem suppressible_in (λ d b g e f. b) suppressible_out, digits_end, none_behind is_suppressible, nines)

    regroup : (p q o n s m g d b l v : Bool) → (p && q) ≡ (o && (n && (s && m)))
        → (p && (q && (g && (d && (b && (l && v)))))) ≡ (o && (b && (d && (m && (n && (l && (g && (s && v))))))))
    regroup p q o n s m g d b l v h = sym (and_assoc p q (g && (d && (b && (l && v))))) ∙ rw h (simp (and_assoc, and_swap))

    shape_found : (found_in φ.kind (walked_to machine weights φ) (walked_on machine weights φ)).shaped ≡ ruled φ
    unfolding found_in ruled form_shape
    shape_found =
        rw (sign_found, dollar_found, bears_found, places_found, drift_found)
        (regroup (leb unbroken (walked_to machine weights φ).phase) (leb unbroken (walked_on machine weights φ).phase) (in_order (leb φ.kind 2) φ.roles) (nines_last φ.roles)
        (statics_placed false φ.roles) (marks_last φ.vee φ.roles) (one_sign φ) (one_dollar φ) (bears φ.kind φ.roles) (suppressed_places φ) (drifts_before_v φ) phases_found)

    digits_found : (found_in φ.kind (walked_to machine weights φ) (walked_on machine weights φ)).digits ≡ digits_fit φ
    unfolding found_in digits_fit
    digits_found = rw digits_end

  -- What the code finds is what the contract says.
  pub found_judged : found_by machine weights φ ≡ judged_of φ
  unfolding found_by judged_of
  found_judged =
      by_test (leb (size φ) most_symbols)
      (λ e. let l = leb-true (size φ) most_symbols e in rw (e, sym (shape_found l), sym (digits_found l)))
      (λ e. rw e)

  pub found_good : good_by machine weights φ ≡ good φ
  unfolding good_by
  found_good = rw found_judged (judged_good φ)
