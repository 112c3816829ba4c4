-- Which positions are hidden, and where the drifting character stands, as the code finds them: by what is
-- left of the magnitude. Where the magnitude has no more digits than the form these are the stretch and its
-- character's place (RULES 3.8, 3.9, 3.13), since before V and the first nine nothing is left exactly where
-- no digit shows yet. Assumes nothing.
use mathlib.Core.Path.{◌≡◌, refl, sym, ◌∙◌}
use mathlib.Core.Bool.{Bool, true, false, not, ◌&&◌, ◌||◌, true≢false, and-false, or-false, or-true}
use mathlib.Core.List.{List}
use mathlib.Core.Logic.{⊎_elim}
use Prim.Native.Nat.{ℕ, suc, ◌+◌, ◌-◌, ◌%◌, ◌^◌, ◌<◌, ◌≤◌, min}
use native.Mathlib.Omega.{arith}
use borrow.Author.Tests.{eq-eqb, eqb-true, le-leb, leb-true, lt-leb, le-ltb, lt-ltb, ltb-true, not-true}
use lib.Dec.{eqb, leb, ltb}
use lib.ListN.{length, get_or, take, drop}
use Rattle.std.proofs.lemmas.List.{length-take-le, take_rest}
use Rattle.rules.specs.Search.{first}
use Rattle.rules.specs.Digits.{digits_of}
use Rattle.rules.specs.Roles.{is_b, is_digit, is_nine, is_suppressible, opens}
use Rattle.rules.specs.Form.{Form, formed, role_at, size}
use Rattle.rules.specs.Shape.{digit_count}
use Rattle.rules.specs.Edit.{digit_at, drifts_to, in_stretch, opening, start}
use Rattle.rules.proofs.Logic.{both, by_test, lt_or_le, neither}
use Rattle.rules.proofs.Search.{first_holds, first_le, first_least, first_mono, first_none, last_found}
use Rattle.rules.proofs.Stretch.{counts, drifts_in, drifts_last, early, start_below, start_simple, stretch_from, stretch_in, stretch_to}
use Rattle.field.specs.Results.{is_hidden, left_at, nine_in, reach, spot}
use Rattle.field.specs.Steps.{Between, lead_to}
use Rattle.field.proofs.Places.{first_drop, first_take}
use Rattle.field.proofs.Left.{left_due, left_none, left_zeros}

module _ (φ : Form) where
  pub reach_le : reach φ ≤ min φ.vee (size φ)
  unfolding reach nine_in
  reach_le = first_le (λ k. is_nine (role_at φ k)) (min φ.vee (size φ))

  pub reach_nine : (k : ℕ) → k < reach φ → is_nine (role_at φ k) ≡ false
  unfolding reach nine_in
  reach_nine k h = first_none (λ j. is_nine (role_at φ j)) (min φ.vee (size φ)) k h

  nine_counts : (ds : List ℕ) (k : ℕ) → is_nine (role_at φ k) ≡ true → counts φ ds k ≡ true
  unfolding counts is_digit
  nine_counts ds k e = rw e (or-true (not (eqb (digit_at φ ds k) 0)))

  -- no stretch goes past it
  reach_start : (ds : List ℕ) → start φ ds ≤ reach φ
  unfolding reach nine_in counts
  reach_start ds =
      let c = first (λ j. counts φ ds j) (size φ) in
      let s : start φ ds ≡ min φ.vee c = start_simple φ ds in
      ⊎_elim
      (λ (l : reach φ < min φ.vee (size φ)).
      let n = first_holds (λ j. is_nine (role_at φ j)) (min φ.vee (size φ)) l in
      let d : counts φ ds (reach φ) ≡ true = nine_counts ds (reach φ) n in
      let m : c ≤ reach φ = first_least (λ j. counts φ ds j) (size φ) (reach φ) d in omega arith)
      (λ (l : min φ.vee (size φ) ≤ reach φ). omega (arith, start_below φ ds))
      (lt_or_le (reach φ) (min φ.vee (size φ)))

  module _ (t : ℕ) where
    pub hidden_parts : (k : ℕ) → is_hidden φ t k ≡ true → (opening φ ≤ k) × (k < reach φ) × (left_at φ.roles t (suc k) ≡ 0)
    unfolding is_hidden
    hidden_parts k e =
        let a = both (leb (opening φ) k) _ e in
        let b = both (ltb k (reach φ)) _ a.1 in
        (leb-true _ _ a.0, ltb-true _ _ b.0, eqb-true _ 0 b.1)

    -- from the reach on nothing is hidden, nor before the opening
    pub hidden_not : (k : ℕ) → reach φ ≤ k → is_hidden φ t k ≡ false
    unfolding is_hidden
    hidden_not k h = rw (le-ltb k (reach φ) h) (and-false (leb (opening φ) k))

    pub hidden_before : (k : ℕ) → k < opening φ → is_hidden φ t k ≡ false
    unfolding is_hidden
    hidden_before k h = rw (lt-leb (opening φ) k h)

    -- between them what is left tells
    pub hidden_left : (k : ℕ) → opening φ ≤ k → k < reach φ → is_hidden φ t k ≡ eqb (left_at φ.roles t (suc k)) 0
    unfolding is_hidden
    hidden_left k h l = rw (le-leb (opening φ) k h, lt-ltb k (reach φ) l)

-- The positions before the first digit or drifting symbol, of those before V.
module _ (rs : List ℕ) (v kind : ℕ) where
  abbrev φ : Form
  φ = formed rs v kind

  -- the positions before V
  abbrev n : ℕ
  n = min v (length rs)

  pub reach_is : nine_in rs n ≡ reach φ
  unfolding reach
  reach_is = refl

  pub lead_reach : lead_to rs n ≤ nine_in rs n
  unfolding lead_to nine_in
  lead_reach = first_mono _ _ n (λ k l e. rw e (or-true (opens (get_or rs k 0))))

  -- as they are looked for: among the positions before V, and from the first on
  pub lead_part : lead_to (take n rs) (length (take n rs)) ≡ lead_to rs n
  unfolding lead_to
  lead_part = first_take (λ r. opens r || is_nine r) rs n (omega arith)

  pub reach_part : (lead : ℕ) → lead ≡ lead_to rs n → (let part = take (length (take n rs) - lead) (drop lead (take n rs)) in lead + nine_in part (length part) ≡ nine_in rs n)
  unfolding lead_to nine_in
  reach_part lead e =
      let s : first (λ k. is_nine (get_or (take n rs) k 0)) (length (take n rs)) ≡ nine_in rs n = first_take is_nine rs n (omega arith) in
      let l : lead ≤ nine_in rs n = rw e lead_reach in
      let m : length (take n rs) ≡ n = length-take-le n rs (omega arith) in
      let b : nine_in rs n ≤ n = first_le (λ k. is_nine (get_or rs k 0)) n in
      rw (take_rest (take n rs) lead) (first_drop is_nine (take n rs) lead (omega arith) (rw s l) ∙ s)

  module _ (lead : ℕ) (e : lead ≡ lead_to rs n) where
    pub lead_between : Between φ lead (nine_in rs n)
    unfolding lead_to opening
    lead_between = record {
      opens = λ l.
          let m : lead < n = omega (arith, reach_le φ, reach_is) in
          let h = first_holds (λ k. opens (get_or rs k 0) || is_nine (get_or rs k 0)) n (rw e at m) in
          let z : is_nine (get_or rs lead 0) ≡ false = reach_nine φ lead (rw reach_is at l) in
          first_least (λ k. opens (role_at φ k)) (size φ) lead (rw (← e, z, or-false) at h);
      reaches = reach_is;
    }

    -- they are no digits, and stand before the opening
    pub lead_before : (k : ℕ) → k < lead → k < opening φ
    unfolding lead_to opening
    lead_before k l =
        ⊎_elim
        (λ (a : k < opening φ). a)
        (λ (a : opening φ ≤ k).
        let o = opening φ in
        let b : o < size φ = omega (arith, first_le (λ j. opens (get_or rs j 0) || is_nine (get_or rs j 0)) n) in
        let x = first_holds (λ j. opens (role_at φ j)) (size φ) b in
        let y = (neither _ _ (first_none (λ j. opens (get_or rs j 0) || is_nine (get_or rs j 0)) n o (omega arith))).0 in
        absurd (true≢false (sym x ∙ y)))
        (lt_or_le k (opening φ))

    pub lead_mark : (k : ℕ) → k < lead → is_digit (get_or rs k 0) ≡ false
    unfolding lead_to is_digit opens
    lead_mark k l =
        let w = neither (opens (get_or rs k 0)) (is_nine (get_or rs k 0)) (first_none (λ j. opens (get_or rs j 0) || is_nine (get_or rs j 0)) n k (rw e at l)) in
        rw w.1 (neither (is_suppressible (get_or rs k 0)) _ w.0).0

-- A magnitude with no more digits than the form.
module _ (φ : Form) (t : ℕ) (small : t < 10 ^ digit_count φ) where
  abbrev ds : List ℕ
  ds = digits_of (digit_count φ) t

  pub digit_due : (k : ℕ) → k < size φ → is_digit (role_at φ k) ≡ true → digit_at φ ds k ≡ left_at φ.roles t (suc k) % 10
  unfolding digit_at
  digit_due k h d = left_due φ.roles t k h d

  hidden_stretch : (k : ℕ) → k < size φ → is_hidden φ t k ≡ true → in_stretch φ ds k ≡ true
  unfolding counts
  hidden_stretch k h e =
      let w = hidden_parts φ t k e in
      let c = first (λ j. counts φ ds j) (size φ) in
      let s : start φ ds ≡ min φ.vee c = start_simple φ ds in
      let b : k < c =
      ⊎_elim
      (λ (a : k < c). a)
      (λ (a : c ≤ k).
      let q = both (is_digit (role_at φ c)) _ (first_holds (λ j. counts φ ds j) (size φ) (omega arith)) in
      let z : left_at φ.roles t (suc c) ≡ 0 = left_none φ.roles t (suc k) (suc c) (omega arith) (omega arith) w.2 in
      let y : digit_at φ ds c ≡ 0 = digit_due c (omega arith) q.0 ∙ rw z in
      absurd (true≢false (sym q.1 ∙ rw (y, reach_nine φ c (omega (arith, w.1))))))
      (lt_or_le k c) in
      stretch_in φ ds k w.0 (omega (arith, w.1, reach_le φ))

  stretch_hidden : (k : ℕ) → in_stretch φ ds k ≡ true → is_hidden φ t k ≡ true
  stretch_hidden k e =
      let b = stretch_to φ ds k e in
      let l : k < size φ = omega (arith, start_below φ ds) in
      let z : left_at φ.roles t (suc k) ≡ 0 = left_zeros φ.roles t small (suc k) (omega arith)
      (λ i m d. sym (digit_due i (omega arith) d) ∙ (early φ ds i (omega arith) d).0) in
      hidden_left φ t k (stretch_from φ ds k e) (omega (arith, reach_start φ ds)) ∙ eq-eqb _ 0 z

  pub hidden_is : (k : ℕ) → k < size φ → is_hidden φ t k ≡ in_stretch φ ds k
  hidden_is k h =
      by_test (is_hidden φ t k)
      (λ e. e ∙ sym (hidden_stretch k h e))
      (λ e. by_test (in_stretch φ ds k) (λ q. absurd (true≢false (sym (stretch_hidden k q) ∙ e))) (λ q. e ∙ sym q))

  -- the drifting character has its place, if there is one
  pub spot_is : opening φ < start φ ds → spot φ t ≡ drifts_to φ ds
  unfolding spot
  spot_is l =
      let p : ℕ → Bool = λ k. is_hidden φ t k && not (is_b (role_at φ k)) in
      let d = drifts_in φ ds l in
      let o : drifts_to φ ds < size φ = omega (arith, start_below φ ds, d.2) in
      let h : p (drifts_to φ ds) ≡ true = rw (hidden_is (drifts_to φ ds) o, stretch_in φ ds _ d.1 d.2, d.0) in
      let f = last_found p (size φ) (drifts_to φ ds) o h in
      let q = both (is_hidden φ t (spot φ t)) _ f.2 in
      let s = stretch_to φ ds _ (sym (hidden_is (spot φ t) f.1) ∙ q.0) in
      let m = (drifts_last φ ds (spot φ t) s (not-true _ q.1)).1 in
      omega (arith, f.0)
