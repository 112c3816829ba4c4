-- What the laws of editing need of a form, and that every good form has it: the rules of shape, which go from role to role, said place by
-- place. Assumes nothing.
use mathlib.Core.Path.{◌≡◌, refl, sym, ◌∙◌}
use mathlib.Core.Bool.{Bool, true, false, not, ◌&&◌, ◌||◌, true≢false}
use mathlib.Core.List.{List, [], ◌∷◌}
use mathlib.Core.Logic.{◌⊎◌, inl, inr, ⊎_elim}
use Prim.Native.Nat.{ℕ, zero, suc, ◌-◌, ◌<◌, ◌≤◌}
use native.Mathlib.Nat.{not-suc-le-zero, le_of_suc-le-suc}
use native.Mathlib.Omega.{arith}
use borrow.Author.Tests.{leb-true, lt-leb, lt-ltb, ltb-true, eqb-true, not-true, ne_eqb}
use lib.Dec.{leb, ltb, eqb}
use lib.ListN.{length, get_or}
use Rattle.rules.specs.Words.{any}
use Rattle.rules.specs.Search.{each, first}
use Rattle.rules.specs.Roles.{drifts, is_digit, is_first_drifting, is_nine, is_punched, is_sign, is_static, is_suppressible, opens, role_limit}
use Rattle.rules.specs.Form.{Form, role_at, size}
use Rattle.rules.specs.Shape.{drifts_before_v, nines_last, statics_placed}
use Rattle.rules.specs.Edit.{opening}
use Rattle.rules.specs.Good.{bears, in_order, marks_last, plain_number}
use Rattle.rules.proofs.Search.{each_at, first_holds}
use Rattle.rules.proofs.Forms.{Good, shape_parts}
use Rattle.rules.proofs.Lists.{all, any_behind, any_none, member_at}
use Rattle.rules.proofs.Logic.{both, by_test, lt_or_le, neither, none_of, or_cases}
use Rattle.rules.proofs.Spelling.{by_marks, plain_small}

pub record Sound (φ : Form) : Type 0 where
  -- there is no other role
  pub known : (k : ℕ) → k < size φ → role_at φ k < role_limit
  -- a sign that is no digit stands before the stretch can open, or no digit stands behind it
  pub apart : (k : ℕ) → k < size φ → is_sign (role_at φ k) ≡ true → is_digit (role_at φ k) ≡ false → (k < opening φ) ⊎ ((j : ℕ) → k ≤ j → j < size φ → is_digit (role_at φ j) ≡ false)
  -- the first drifting symbol stands before every digit, and V does not stand before it
  pub before : drifts φ.kind ≡ true → (j : ℕ) → j ≤ opening φ → is_digit (role_at φ j) ≡ false
  pub inside : drifts φ.kind ≡ true → (opening φ < size φ) × (opening φ < φ.vee)

-- The first place at which suppression may begin, in a list of roles.
abbrev opens_at : List ℕ → ℕ → Bool
opens_at rs k = opens (get_or rs k 0)

abbrev opening_in : List ℕ → ℕ
opening_in rs = first (λ k. opens_at rs k) (length rs)

-- Facts about single roles, by computing over all of them.
static_no_digit : (r : ℕ) → is_static r ≡ true → is_digit r ≡ false
unfolding is_static is_digit is_nine is_punched is_suppressible first each
static_no_digit r e =
    let l : r < 7 = omega (arith, leb-true r 6 (both (leb 3 r) _ e).1) in
    not-true _ (rw e at (each_at (λ j. not (is_static j) || not (is_digit j)) 7 r refl l))

static_no_opening : (r : ℕ) → is_static r ≡ true → opens r ≡ false
unfolding is_static opens is_suppressible is_first_drifting
static_no_opening r e =
    let l = leb-true 3 r (both (leb 3 r) _ e).0 in
    rw (ne_eqb r 1 (λ q. omega arith), ne_eqb r 2 (λ q. omega arith))

quiet_no_opening : (r : ℕ) → is_digit r ≡ false → is_first_drifting r ≡ false → opens r ≡ false
unfolding is_digit opens
quiet_no_opening r d f = rw ((neither (is_nine r) _ d).1, f)

plain_digit : (r : ℕ) → is_nine r ≡ false → is_suppressible r ≡ false → is_digit r ≡ false
unfolding is_digit
plain_digit r n u = rw (n, u)

sign_static : (r : ℕ) → r < role_limit → is_sign r ≡ true → is_digit r ≡ false → (is_static r ≡ true) ⊎ (plain_number r ≡ false)
unfolding is_sign is_static is_digit is_nine is_punched is_suppressible plain_number first each
sign_static r l e d =
    let h : (is_static r || not (plain_number r)) ≡ true = rw (e, d) at (each_at (λ j. not (is_sign j) || (is_digit j || (is_static j || not (plain_number j)))) role_limit r refl l) in
    ⊎_elim (λ s. inl s) (λ n. inr (not-true _ n)) (or_cases (is_static r) _ h)

-- Every role is known, and behind a mark's letter stands no digit.
all_known : (v : ℕ) (rs : List ℕ) → marks_last v rs ≡ true → all (λ r. ltb r role_limit) rs ≡ true
unfolding all
all_known v [] h = refl
all_known v (r ∷ rs) h =
    by_marks v r rs h (λ n p q. rw (p, q)) (λ n p q. rw (p, q))
    (λ l q. rw (lt-ltb r role_limit (plain_small r l), all_known (v - 1) rs q))

mark_tail : (v : ℕ) (rs : List ℕ) → marks_last v rs ≡ true → (k : ℕ) → plain_number (get_or rs k 0) ≡ false → (j : ℕ) → k ≤ j → j < length rs → is_digit (get_or rs j 0) ≡ false
mark_tail v [] h k e j a l = absurd (not-suc-le-zero l)
mark_tail v (r ∷ rs) h zero e j a l =
    by_marks v r rs h
    (λ n p q. any_none is_digit (r ∷ rs) (rw (p, q) (unfold any is_digit is_nine is_punched is_suppressible in refl)) j l)
    (λ n p q. any_none is_digit (r ∷ rs) (rw (p, q) (unfold any is_digit is_nine is_punched is_suppressible in refl)) j l)
    (λ p q. absurd (true≢false (sym p ∙ e)))
mark_tail v (r ∷ rs) h (suc k) e zero a l = absurd (not-suc-le-zero a)
mark_tail v (r ∷ rs) h (suc k) e (suc j) a l =
    let next : marks_last (v - 1) rs ≡ true → is_digit (get_or rs j 0) ≡ false = λ q. mark_tail (v - 1) rs q k e j (le_of_suc-le-suc a) (le_of_suc-le-suc l) in
    by_marks v r rs h
    (λ n p q. any_none is_digit (r ∷ rs) (rw (p, q) (unfold any is_digit is_nine is_punched is_suppressible in refl)) (suc j) l)
    (λ n p q. any_none is_digit (r ∷ rs) (rw (p, q) (unfold any is_digit is_nine is_punched is_suppressible in refl)) (suc j) l)
    (λ p q. next q)

-- A static symbol has no digit and no first drifting symbol before it, or no digit behind it.
abbrev Quiet : List ℕ → ℕ → Type 0
Quiet rs k = (j : ℕ) → j < k → opens_at rs j ≡ false

abbrev Ended : List ℕ → ℕ → Type 0
Ended rs k = (j : ℕ) → k ≤ j → j < length rs → is_digit (get_or rs j 0) ≡ false

ended_here : (r : ℕ) (rs : List ℕ) → is_static r ≡ true → any is_digit rs ≡ false → Ended (r ∷ rs) 0
ended_here r rs e h zero a l = static_no_digit r e
ended_here r rs e h (suc j) a l = any_none is_digit rs h j (le_of_suc-le-suc l)

ended_more : (r : ℕ) (rs : List ℕ) (k : ℕ) → Ended rs k → Ended (r ∷ rs) (suc k)
ended_more r rs k h zero a l = absurd (not-suc-le-zero a)
ended_more r rs k h (suc j) a l = h j (le_of_suc-le-suc a) (le_of_suc-le-suc l)

quiet_more : (r : ℕ) (rs : List ℕ) (k : ℕ) → opens r ≡ false → Quiet rs k → Quiet (r ∷ rs) (suc k)
quiet_more r rs k e h zero a = e
quiet_more r rs k e h (suc j) a = h j (le_of_suc-le-suc a)

statics_apart : (begun : Bool) (rs : List ℕ) → statics_placed begun rs ≡ true → (k : ℕ) → k < length rs → is_static (get_or rs k 0) ≡ true
    → ((begun ≡ false) × Quiet rs k) ⊎ Ended rs k
unfolding statics_placed
statics_apart begun [] h k l e = absurd (not-suc-le-zero l)
statics_apart begun (r ∷ rs) h zero l e =
    let w : not (begun && any is_digit rs) ≡ true = rw e at (both (not (is_static r && begun && any is_digit rs)) _ h).0 in
    by_test begun (λ b. inr (ended_here r rs e (not-true _ (rw b at w)))) (λ b. inl (b, λ j a. absurd (not-suc-le-zero a)))
statics_apart begun (r ∷ rs) h (suc k) l e =
    ⊎_elim
    (λ (i : ((begun || is_digit r || is_first_drifting r) ≡ false) × Quiet rs k).
    let n = none_of begun (is_digit r) (is_first_drifting r) i.0 in
    inl (n.0, quiet_more r rs k (quiet_no_opening r n.1 n.2) i.1))
    (λ (i : Ended rs k). inr (ended_more r rs k i))
    (statics_apart (begun || is_digit r || is_first_drifting r) rs (both (not (is_static r && begun && any is_digit rs)) _ h).1 k (le_of_suc-le-suc l) e)

-- what stands before every place at which suppression may begin stands before the stretch
quiet_early : (rs : List ℕ) (k : ℕ) → k < length rs → Quiet rs k → opens_at rs k ≡ false → k < opening_in rs
quiet_early rs k l q e =
    ⊎_elim
    (λ (m : k < opening_in rs). m)
    (λ (m : opening_in rs ≤ k).
    let n : opening_in rs < length rs = omega arith in
    let h = first_holds (λ j. opens_at rs j) (length rs) n in
    absurd (true≢false (sym h ∙ ⊎_elim (λ (x : opening_in rs < k). q (opening_in rs) x) (λ (x : k ≤ opening_in rs). let y : opening_in rs ≡ k = omega arith in rw y e) (lt_or_le (opening_in rs) k))))
    (lt_or_le k (opening_in rs))

-- Where a symbol drifts, its first occurrence opens the stretch and stands before every digit.
pub record Leads (rs : List ℕ) (o : ℕ) : Type 0 where
  pub below : o < length rs
  pub drifting : is_first_drifting (get_or rs o 0) ≡ true
  pub ahead : (j : ℕ) → j ≤ o → is_digit (get_or rs j 0) ≡ false

leads_here : (r : ℕ) (rs : List ℕ) → is_first_drifting r ≡ true → Leads (r ∷ rs) (opening_in (r ∷ rs))
unfolding first opens is_first_drifting is_suppressible is_digit is_nine is_punched
leads_here r rs e = rw (eqb-true r 2 e) (record { below = omega arith; drifting = refl; ahead = at })
  where
    at : (j : ℕ) → j ≤ 0 → is_digit (get_or (2 ∷ rs) j 0) ≡ false
    at zero l = refl
    at (suc j) l = absurd (not-suc-le-zero l)

leads_more : (r : ℕ) (rs : List ℕ) → opens r ≡ false → is_digit r ≡ false → Leads rs (opening_in rs) → Leads (r ∷ rs) (opening_in (r ∷ rs))
unfolding first
leads_more r rs o d h = rw o (record { below = omega (arith, h.below); drifting = h.drifting; ahead = at })
  where
    at : (j : ℕ) → j ≤ suc (opening_in rs) → is_digit (get_or (r ∷ rs) j 0) ≡ false
    at zero l = d
    at (suc j) l = h.ahead j (le_of_suc-le-suc l)

leads : (rs : List ℕ) → in_order false rs ≡ true → nines_last rs ≡ true → any is_suppressible rs ≡ true → Leads rs (opening_in rs)
unfolding in_order nines_last any
leads [] o n a = absurd (true≢false (sym a))
leads (r ∷ rs) o n a =
    let next : in_order false rs ≡ true → nines_last rs ≡ true → any is_suppressible rs ≡ true → Leads rs (opening_in rs) = λ x y z. leads rs x y z in
    by_test (eqb r 2) (λ e. leads_here r rs (unfold is_first_drifting in e))
    (λ e. by_test (eqb r 1) (λ q. absurd (true≢false (sym (rw (e, q) at o))))
    (λ q.
    let u : is_suppressible r ≡ false = unfold is_suppressible in q in
    let s : any is_suppressible rs ≡ true = rw u at a in
    let w = both (not (is_nine r && any is_suppressible rs)) (nines_last rs) n in
    let z : is_nine r ≡ false = other (is_nine r) (rw s at w.0) in
    let d = plain_digit r z u in
    leads_more r rs (quiet_no_opening r d (unfold is_first_drifting in e)) d (next (rw (e, q) at o) w.1 s)))
  where
    other : (b : Bool) → not (b && true) ≡ true → b ≡ false
    other true h = absurd (true≢false (sym h))
    other false h = refl

module _ (φ : Form) (g : Good φ) where
  known : (k : ℕ) → k < size φ → role_at φ k < role_limit
  known k l = ltb-true _ role_limit (member_at (λ r. ltb r role_limit) φ.roles (all_known φ.vee φ.roles g.marks) refl k)

  apart : (k : ℕ) → k < size φ → is_sign (role_at φ k) ≡ true → is_digit (role_at φ k) ≡ false → (k < opening φ) ⊎ ((j : ℕ) → k ≤ j → j < size φ → is_digit (role_at φ j) ≡ false)
  unfolding opening
  apart k l e n =
      ⊎_elim
      (λ (t : is_static (role_at φ k) ≡ true). ⊎_elim
      (λ (i : (false ≡ false) × Quiet φ.roles k). inl (quiet_early φ.roles k l i.1 (static_no_opening _ t)))
      (λ (i : Ended φ.roles k). inr i)
      (statics_apart false φ.roles (shape_parts φ g.shape).statics k l t))
      (λ (m : plain_number (role_at φ k) ≡ false). inr (mark_tail φ.vee φ.roles g.marks k m))
      (sign_static _ (known k l) e n)

  drift_leads : drifts φ.kind ≡ true → Leads φ.roles (opening_in φ.roles)
  unfolding drifts bears
  drift_leads d =
      let l = leb-true 3 φ.kind (both (leb 3 φ.kind) _ d).0 in
      let o : leb φ.kind 2 ≡ false = lt-leb φ.kind 2 (omega arith) in
      let z : eqb φ.kind 0 ≡ false = ne_eqb φ.kind 0 (λ q. omega arith) in
      leads φ.roles (rw o at g.order) (shape_parts φ g.shape).nines (rw z at g.borne)

  drift_inside : drifts φ.kind ≡ true → (opening φ < size φ) × (opening φ < φ.vee)
  unfolding opening drifts_before_v
  drift_inside d =
      let h = drift_leads d in
      let o = opening_in φ.roles in (
        h.below,
        ⊎_elim
            (λ (m : o < φ.vee). m)
            (λ (m : φ.vee ≤ o). absurd (true≢false (sym (any_behind is_first_drifting φ.vee o φ.roles m h.below h.drifting) ∙ not-true _ (shape_parts φ g.shape).vee)))
            (lt_or_le o φ.vee),
      )

  -- a good form has what the laws of editing need
  pub sound : Sound φ
  unfolding opening
  sound = record { known = known; apart = apart; before = λ d. (drift_leads d).ahead; inside = drift_inside }
