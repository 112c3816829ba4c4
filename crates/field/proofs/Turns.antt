-- One turn where positions can be hidden, and the parts of a field together. The drifting character waits
-- until the first hidden position that is no B is met; that is its place, since of the hidden ones it is the
-- last. Assumes nothing.
use mathlib.Core.Path.{◌≡◌, refl, sym, ◌∙◌, subst}
use mathlib.Core.Bool.{Bool, true, false, cond, not, ◌&&◌, ◌||◌, true≢false, and-false, and-true}
use mathlib.Core.List.{List}
use mathlib.Core.Logic.{⊎_elim}
use Prim.Native.Char.{code}
use Prim.Native.Nat.{ℕ, suc, ◌+◌, ◌-◌, ◌/◌, ◌%◌, ◌<◌, ◌≤◌, min}
use native.Mathlib.Omega.{arith}
use borrow.Author.Tests.{eq-eqb, eqb-true, le-ltb, lt-ltb, ltb-true, ltb-false}
use lib.Dec.{eqb, ltb}
use lib.ListN.{length, get_or, set}
use lib.Seq.{sets}
use Rattle.rules.specs.Search.{up_to}
use Rattle.rules.specs.Roles.{drifts, is_b, is_bare, is_digit, is_nine, is_punched, is_suppressible}
use Rattle.rules.specs.Form.{Form, formed, role_at, size}
use Rattle.rules.specs.Edit.{fill}
use Rattle.rules.proofs.Logic.{both, by_test, lt_or_le, neither}
use Rattle.rules.proofs.Search.{last_found, last_holds, up_to_same}
use Rattle.roles.specs.Table.{figure_by, mark_by}
use Rattle.field.specs.Results.{is_hidden, left_at, nine_in, printed_at, printed_by, shown_at, spot}
use Rattle.field.specs.Steps.{Between, lead_to, step_of}
use Rattle.field.specs.declared.writing.Step.{Step}
use Rattle.field.proofs.Bytes.{sets_back}
use Rattle.field.proofs.Field.{punched_digit}
use Rattle.field.proofs.Left.{left_back}
use Rattle.field.proofs.Hiding.{hidden_before, hidden_left, hidden_not, hidden_parts, lead_before, lead_mark, reach_is, reach_le}

-- One position: a bare digit, a punched one, or a mark.
module _ (table : List ℕ) (r : ℕ) (negative : Bool) (t : ℕ) where
  pub step_bare : is_bare r ≡ true → record { prints = 48 + t % 10; left = t / 10 } ≡ step_of table r negative t
  unfolding step_of printed_by is_bare
  step_bare b = rw ((both (is_digit r) _ b).0, (both (is_digit r) _ b).1)

  module _ (b : is_bare r ≡ false) where
    pub step_punched : is_punched r ≡ true → record { prints = figure_by table r negative (t % 10); left = t / 10 } ≡ step_of table r negative t
    unfolding step_of printed_by
    step_punched p = rw (b, p, punched_digit r p)

    pub step_mark : is_punched r ≡ false → record { prints = mark_by table r negative; left = t } ≡ step_of table r negative t
    unfolding step_of printed_by is_bare
    step_mark p = let n : is_digit r ≡ false = rw (p, and-true) at b in rw (n, p)

-- A turn where all print: what is left behind a position gives what it prints and what is left before it.
module _ (table rs : List ℕ) (negative : Bool) (t k : ℕ) (h : 0 < k) (l : k ≤ length rs) (s : Step) (e : s ≡ step_of table (get_or rs (k - 1) 0) negative (left_at rs t k)) where
  pub left_turn : s.left ≡ left_at rs t (k - 1)
  unfolding step_of
  left_turn = rw e (sym (left_back rs t k h l))

  pub print_turn : s.prints ≡ printed_at table rs negative t (k - 1)
  unfolding step_of printed_at
  print_turn = let q : suc (k - 1) ≡ k = omega arith in rw (e, q)

module _ (table : List ℕ) (φ : Form) (negative : Bool) (t lead to : ℕ) (lent : List ℕ) where
  abbrev shows : ℕ → ℕ
  shows = shown_at table φ negative t

  -- what waits before position k is met
  unfoldable pub waiting : ℕ → ℕ
  waiting k = cond (drifts φ.kind && ltb (spot φ t) k) (mark_by table φ.kind negative) (fill φ.kind)

  pub record Hiding (k rest waits : ℕ) (out : List ℕ) : Type 0 where
    pub left : rest ≡ left_at φ.roles t k
    pub due : 0 < k → waits ≡ waiting k
    pub same : sets out 0 (up_to k shows) ≡ sets lent 0 (up_to to shows)

  abbrev placed : ℕ → Bool
  placed k = is_hidden φ t k && not (is_b (role_at φ k))

  -- the drifting character's place is no position that it can't have
  not_placed : (j : ℕ) → 0 < j → placed j ≡ false → ltb (spot φ t) (suc j) ≡ ltb (spot φ t) j
  unfolding spot
  not_placed j h e =
      let n : (spot φ t ≡ j → ⊥) = λ q. true≢false (sym (last_holds placed (size φ) (rw q h)) ∙ rw q e) in
      by_test (ltb (spot φ t) j)
      (λ l. let m : spot φ t < j = ltb-true _ _ l in rw l (lt-ltb (spot φ t) (suc j) (omega arith)))
      (λ l. let m : j ≤ spot φ t = ltb-false _ _ l in rw l (le-ltb (spot φ t) (suc j) (omega arith)))

  -- and one that it can have is its place, or lies before it
  is_placed : (j : ℕ) → j < size φ → placed j ≡ true → (ltb (spot φ t) (suc j) ≡ eqb j (spot φ t)) × (ltb (spot φ t) j ≡ false)
  unfolding spot
  is_placed j h e =
      let l = (last_found placed (size φ) j h e).0 in (
        by_test (eqb j (spot φ t))
            (λ q. let m = eqb-true j (spot φ t) q in rw q (lt-ltb (spot φ t) (suc j) (omega arith)))
            (λ q. let m : (j ≡ spot φ t → ⊥) = λ z. true≢false (sym (eq-eqb j (spot φ t) z) ∙ q) in rw q (le-ltb (spot φ t) (suc j) (omega arith))),
        le-ltb (spot φ t) j l,
      )

  module _ (b : Between φ lead to) where
    pub hide_start : (left waits : ℕ) → left ≡ left_at φ.roles t to → waits ≡ cond (drifts φ.kind) (mark_by table φ.kind negative) (fill φ.kind) → Hiding to left waits lent
    unfolding waiting spot
    hide_start left waits e w =
        let s : 0 < to → spot φ t < to =
        λ h. ⊎_elim
        (λ (z : 0 < spot φ t). omega (arith, b.reaches, (hidden_parts φ t (spot φ t) (both (is_hidden φ t (spot φ t)) _ (last_holds placed (size φ) z)).0).1))
        (λ (z : spot φ t ≤ 0). omega arith)
        (lt_or_le 0 (spot φ t)) in
        record {
          left = e;
          due = λ h. w ∙ by_test (drifts φ.kind) (λ d. rw (d, lt-ltb (spot φ t) to (s h))) (λ d. rw d);
          same = refl;
        }

    module _ (k rest waits : ℕ) (out : List ℕ) (h : lead < k) (l : k ≤ to) (d : Hiding k rest waits out) where
      abbrev j : ℕ
      j = k - 1

      k_is : suc j ≡ k
      k_is = omega arith

      in_size : j < size φ
      in_size = omega (arith, b.reaches, reach_le φ)

      -- what is left tells whether the position is hidden
      tells : is_hidden φ t j ≡ eqb rest 0
      tells = hidden_left φ t j (omega (arith, b.opens (omega arith))) (omega (arith, b.reaches)) ∙ rw (k_is, ← d.left)

      shown_here : eqb rest 0 ≡ false → printed_by table (role_at φ j) negative (rest % 10) ≡ shows j
      unfolding shown_at printed_at
      shown_here e = rw (tells, e, k_is, ← d.left)

      blank_here : eqb rest 0 ≡ true → is_b (role_at φ j) ≡ true → code " " ≡ shows j
      unfolding shown_at
      blank_here e q = rw (tells, e, q)

      placed_here : eqb rest 0 ≡ true → is_b (role_at φ j) ≡ false → placed j ≡ true
      placed_here e q = rw (tells, e, q)

      due_here : waits ≡ waiting (suc j)
      due_here = subst (λ (x : ℕ). waits ≡ waiting x) (sym k_is) (d.due (omega arith))

      waits_here : eqb rest 0 ≡ true → is_b (role_at φ j) ≡ false → waits ≡ shows j
      unfolding shown_at waiting
      waits_here e q = due_here ∙ rw ((is_placed j in_size (placed_here e q)).0, tells, e, q)

      still : placed j ≡ false → 0 < j → waits ≡ waiting j
      unfolding waiting
      still e z = due_here ∙ rw (not_placed j z e)

      no_more : placed j ≡ true → fill φ.kind ≡ waiting j
      unfolding waiting
      no_more e = rw ((is_placed j in_size e).1, and-false (drifts φ.kind))

      pub hide_turn : (s : Step) → s ≡ step_of table (role_at φ j) negative rest → (v w : ℕ)
          → v ≡ cond (not (eqb rest 0)) s.prints (cond (is_b (role_at φ j)) (code " ") waits)
          → w ≡ cond (not (eqb rest 0) || is_b (role_at φ j)) waits (fill φ.kind)
          → Hiding j s.left w (set out j v)
      unfolding step_of
      hide_turn s x v w q z =
          let made : v ≡ shows j → (0 < j → w ≡ waiting j) → Hiding j s.left w (set out j v) = λ a c. record {
            left = rw (x, d.left) (sym (left_back φ.roles t k (omega arith) (omega (arith, in_size))));
            due = c;
            same = sets_back shows out k v (omega arith) a d.same;
          } in
          by_test (eqb rest 0)
          (λ e. by_test (is_b (role_at φ j))
          (λ y. made (q ∙ rw (e, y) (blank_here e y)) (λ c. z ∙ rw (e, y) (still (rw (tells, e, y)) c)))
          (λ y. made (q ∙ rw (e, y) (waits_here e y)) (λ c. z ∙ rw (e, y) (no_more (placed_here e y)))))
          (λ e. made (q ∙ rw (e, x) (shown_here e)) (λ c. z ∙ rw e (still (rw (tells, e)) c)))

-- what is no digit is not punched
unpunched : (r : ℕ) → is_digit r ≡ false → is_punched r ≡ false
unfolding is_digit is_nine
unpunched r d = (neither (eqb r 0) _ (neither _ (is_suppressible r) d).0).1

-- The whole: what stands behind prints, then what can be hidden, then what stands before.
module _ (table rs : List ℕ) (v kind : ℕ) (negative : Bool) (t : ℕ) where
  abbrev φ : Form
  φ = formed rs v kind

  abbrev n : ℕ
  n = min v (length rs)

  pub behind : (to : ℕ) → to ≡ nine_in rs n → (k : ℕ) → to ≤ k → shown_at table φ negative t k ≡ printed_at table rs negative t k
  unfolding shown_at
  behind to e k h = rw (hidden_not φ t k (rw (← reach_is rs v kind, ← e) h))

  before_is : (lead : ℕ) → lead ≡ lead_to rs n → (k : ℕ) → k < lead → mark_by table (get_or rs k 0) negative ≡ shown_at table φ negative t k
  unfolding shown_at printed_at printed_by is_bare
  before_is lead e k h =
      let d = lead_mark rs v kind lead e k h in
      rw (hidden_before φ t k (lead_before rs v kind lead e k h), d, unpunched (get_or rs k 0) d)

  pub all_parts : (lead to : ℕ) → lead ≡ lead_to rs n → to ≡ nine_in rs n → (lent a b c : List ℕ)
      → sets a 0 (up_to to (shown_at table φ negative t)) ≡ sets lent 0 (up_to (length rs) (shown_at table φ negative t))
      → sets b 0 (up_to lead (shown_at table φ negative t)) ≡ sets a 0 (up_to to (shown_at table φ negative t))
      → c ≡ sets b 0 (up_to lead (λ k. mark_by table (get_or rs k 0) negative))
      → c ≡ sets lent 0 (up_to (length rs) (shown_at table φ negative t))
  all_parts lead to e q lent a b c x y z = z ∙ rw (up_to_same _ _ lead (λ k h. before_is lead e k h)) (y ∙ x)
