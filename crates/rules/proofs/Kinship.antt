-- Numbers and a kind as roles, and roles as numbers again: the kind that suppresses is found again, the roles come back, and where the marks
-- stand does not depend on what stands for a digit or a symbol. Assumes nothing.
use Prim.Native.Nat.{ℕ, zero, suc, ◌+◌, ◌-◌, ◌<◌, ◌≤◌}
use mathlib.Core.Path.{◌≡◌, refl, sym, ap, ◌∙◌}
use mathlib.Core.Bool.{Bool, true, false, cond, true≢false, not, ◌||◌, or-true, or-false, and-false}
use mathlib.Core.List.{List, [], ◌∷◌, map}
use native.Mathlib.Omega.{arith}
use borrow.Author.Tests.{eqb-true, eqb-false, leb-true, leb-false, not-true, le-leb, lt-leb, lt-ltb, eq-eqb, ne_eqb}
use lib.Dec.{eqb, leb, ltb}
use lib.ListN.{length}
use Rattle.rules.specs.Words.{any, count, same, times}
use Rattle.rules.specs.Roles.{is_punched, is_suppressible}
use Rattle.rules.specs.Form.{kind_up_to, of_kind, roles_from, suppresses}
use Rattle.rules.specs.Good.{bears, in_order, marks_last, plain_number, suppressing}
use Rattle.rules.proofs.Logic.{both, by_test, eqb_swap, neither}
use Rattle.rules.proofs.WriteBack.{number_of}

-- of the kinds 1 to n exactly k suppresses
abbrev pub Only : ℕ → ℕ → List ℕ → Type 0
Only n k ns = (j : ℕ) → 1 ≤ j → j ≤ n → suppresses j ns ≡ eqb j k

pub up_to_le : (n : ℕ) (ns : List ℕ) → kind_up_to n ns ≤ n
unfolding kind_up_to
up_to_le zero ns = omega arith
up_to_le (suc n) ns =
    by_test (suppresses (suc n) ns) (λ e. rw e (omega arith)) (λ e. rw e (omega (arith, up_to_le n ns)))

none_up_to : (n : ℕ) (ns : List ℕ) → suppressing n ns ≡ 0 → (j : ℕ) → 1 ≤ j → j ≤ n → suppresses j ns ≡ false
unfolding suppressing
none_up_to zero ns h j p q = absurd (omega arith)
none_up_to (suc n) ns h j p q =
    by_test (suppresses (suc n) ns) (λ e. let z = rw e at h in absurd (omega arith))
    (λ e. let z = rw e at h in
    by_test (eqb j (suc n)) (λ x. rw (eqb-true j (suc n) x) e)
    (λ x. let y = eqb-false j (suc n) x in none_up_to n ns (omega arith) j p (omega arith)))

pub only_of : (n : ℕ) (ns : List ℕ) → suppressing n ns ≤ 1 → Only n (kind_up_to n ns) ns
unfolding suppressing kind_up_to
only_of zero ns h j p q = absurd (omega arith)
only_of (suc n) ns h j p q =
    by_test (suppresses (suc n) ns)
    (λ e. let z = rw e at h in
    by_test (eqb j (suc n)) (λ x. rw (eqb-true j (suc n) x, e) (sym (eq-eqb (suc n) (suc n) refl)))
    (λ x. let y = eqb-false j (suc n) x in rw e (none_up_to n ns (omega arith) j p (omega arith) ∙ sym x)))
    (λ e. let z = rw e at h in
    by_test (eqb j (suc n)) (λ x. rw (eqb-true j (suc n) x, e) (sym (ne_eqb (suc n) (kind_up_to n ns) (λ y. omega (arith, up_to_le n ns)))))
    (λ x. let y = eqb-false j (suc n) x in rw e (only_of n ns (omega arith) j p (omega arith))))

pub only_none : (n k : ℕ) (ns : List ℕ) → n < k → Only n k ns → (suppressing n ns ≡ 0) × (kind_up_to n ns ≡ 0)
unfolding suppressing kind_up_to
only_none zero k ns l h = (refl, refl)
only_none (suc n) k ns l h =
    let e : suppresses (suc n) ns ≡ false = h (suc n) (omega arith) (omega arith) ∙ ne_eqb (suc n) k (λ y. omega arith) in
    let i = only_none n k ns (omega arith) (λ j p q. h j p (omega arith)) in
    (rw e (omega (arith, i.0)), rw e i.1)

pub only_back : (n k : ℕ) (ns : List ℕ) → k ≤ n → Only n k ns → (suppressing n ns ≤ 1) × (kind_up_to n ns ≡ k)
unfolding suppressing kind_up_to
only_back zero k ns l h = (omega arith, omega arith)
only_back (suc n) k ns l h =
    by_test (eqb (suc n) k)
    (λ x. let y = eqb-true (suc n) k x in
    let e : suppresses (suc n) ns ≡ true = h (suc n) (omega arith) (omega arith) ∙ x in
    let i = only_none n k ns (omega arith) (λ j p q. h j p (omega arith)) in
    (rw e (omega (arith, i.0)), rw e y))
    (λ x. let y = eqb-false (suc n) k x in
    let e : suppresses (suc n) ns ≡ false = h (suc n) (omega arith) (omega arith) ∙ x in
    let i = only_back n k ns (omega arith) (λ j p q. h j p (omega arith)) in
    (rw e (omega (arith, i.0)), rw e i.1))

-- Counts.
own_kind : (k : ℕ) → 1 ≤ k → of_kind k k ≡ true
own_kind k l = rw (lt-ltb 0 k l, eq-eqb k k refl)

other_kind : (k c : ℕ) → (c ≡ k → ⊥) → of_kind k c ≡ false
other_kind k c n = rw (ne_eqb c k n) (and-false (ltb 0 k))

pub times_count : (j : ℕ) (p : ℕ → Bool) → p j ≡ true → (rs : List ℕ) → times j rs ≤ count p rs
unfolding times count
times_count j p e [] = omega arith
times_count j p e (r ∷ rs) =
    let i = times_count j p e rs in
    by_test (eqb j r) (λ q. let z : p r ≡ true = rw (← eqb-true j r q) e in rw (q, z) (omega arith))
    (λ q. by_test (p r) (λ z. rw (q, z) (omega arith)) (λ z. rw (q, z) (omega arith)))

pub any_times : (rs : List ℕ) → any is_suppressible rs ≡ true → 1 ≤ times 1 rs
unfolding any times is_suppressible
any_times [] h = absurd (true≢false (sym h))
any_times (r ∷ rs) h =
    by_test (eqb r 1) (λ e. rw (eqb_swap 1 r, e) (omega arith)) (λ e. omega (arith, any_times rs (rw e at h)))

drift_first : (rs : List ℕ) → in_order false rs ≡ true → any is_suppressible rs ≡ true → 1 ≤ times 2 rs
unfolding in_order any times is_suppressible
drift_first [] h a = absurd (true≢false (sym a))
drift_first (r ∷ rs) h a =
    by_test (eqb r 2) (λ e. rw (eqb_swap 2 r, e) (omega arith))
    (λ e. by_test (eqb r 1) (λ q. absurd (true≢false (sym (rw (e, q) at h))))
    (λ q. omega (arith, drift_first rs (rw (e, q) at h) (rw q at a))))

-- Roles as numbers.
module _ (k : ℕ) where
  times_other : (j : ℕ) → (j ≡ k → ⊥) → (rs : List ℕ) → times j (map (number_of k) rs) ≤ times j rs
  unfolding times
  times_other j n [] = omega arith
  times_other j n (r ∷ rs) =
      let i = times_other j n rs in
      by_test (eqb r 1 || eqb r 2) (λ e. rw (e, ne_eqb j k n) (omega arith)) (λ e. rw e (omega arith))

  times_none : (j : ℕ) → (j ≡ k → ⊥) → 1 ≤ j → j ≤ 2 → (rs : List ℕ) → times j (map (number_of k) rs) ≡ 0
  unfolding times
  times_none j n p q [] = refl
  times_none j n p q (r ∷ rs) =
      let i = times_none j n p q rs in
      by_test (eqb r 1 || eqb r 2) (λ e. rw (e, ne_eqb j k n, i))
      (λ e. let w = neither _ _ e in
      let x = eqb-false r 1 w.0 in
      let y = eqb-false r 2 w.1 in
      let z : eqb j r ≡ false = ne_eqb j r (λ t. omega arith) in
      rw (e, z, i))

  times_own : (rs : List ℕ) → times 1 rs + times 2 rs ≤ times k (map (number_of k) rs)
  unfolding times
  times_own [] = omega arith
  times_own (r ∷ rs) =
      let i = times_own rs in
      by_test (eqb r 1)
      (λ e. rw (eqb-true r 1 e, eq-eqb k k refl) (omega arith))
      (λ e. by_test (eqb r 2) (λ q. rw (eqb-true r 2 q, eq-eqb k k refl) (omega arith)) (λ q. rw (eqb_swap 1 r, e, eqb_swap 2 r, q) (omega arith)))

  apart : (r : ℕ) (rs : List ℕ) → 1 ≤ k → (3 ≤ k → times k (r ∷ rs) ≡ 0) → (r ≡ 1 → ⊥) → (r ≡ 2 → ⊥) → r ≡ k → ⊥
  unfolding times
  apart r rs p s x y e = by_test (leb 3 k)
      (λ l. let z = rw (eq-eqb k r (sym e)) at (s (leb-true 3 k l)) in omega arith)
      (λ l. let z = leb-false 3 k l in omega arith)

  pub roles_back : (met : Bool) (rs : List ℕ) → 1 ≤ k → (3 ≤ k → times k rs ≡ 0) → in_order met rs ≡ true → roles_from k met (map (number_of k) rs) ≡ rs
  unfolding roles_from in_order
  roles_back met [] p s h = refl
  roles_back met (r ∷ rs) p s h =
      let t : 3 ≤ k → times k rs ≡ 0 = λ l. (unfold times in omega (arith, s l)) in
      by_test (eqb r 2)
      (λ e. let w = both (not met) (in_order (met || true) rs) (rw e at h) in
      rw (eqb-true r 2 e, own_kind k p, not-true met w.0) (ap (2 ∷◌) (roles_back true rs p t (rw (not-true met w.0) at w.1))))
      (λ e. by_test (eqb r 1)
      (λ q. let w = both met (in_order (met || false) rs) (rw (e, q) at h) in
      rw (eqb-true r 1 q, own_kind k p, w.0) (ap (1 ∷◌) (roles_back true rs p t (rw w.0 at w.1))))
      (λ q. let w : in_order met rs ≡ true = rw or-false at (rw (e, q) at h) in
      let o : of_kind k r ≡ false = other_kind k r (apart r rs p s (eqb-false r 1 q) (eqb-false r 2 e)) in
      rw (q, e, o, or-false) (ap (r ∷◌) (roles_back met rs p t w))))

-- Under kind 0 each number is its role.
pub no_kind : (met : Bool) (ns : List ℕ) → roles_from 0 met ns ≡ ns
unfolding roles_from
no_kind met [] = refl
no_kind met (c ∷ ns) = rw (no_kind (met || false) ns)

pub plain_numbers : (rs : List ℕ) → in_order true rs ≡ true → any is_suppressible rs ≡ false → map (number_of 0) rs ≡ rs
unfolding in_order any is_suppressible
plain_numbers [] h a = refl
plain_numbers (r ∷ rs) h a =
    let w = neither (eqb r 1) (any is_suppressible rs) a in
    by_test (eqb r 2) (λ e. absurd (true≢false (sym (rw e at h))))
    (λ e. rw (w.0, e, plain_numbers rs (rw (e, w.0) at h) w.1))

-- The numbers of well made roles bear out their kind, and no other.
pub only_numbers : (n k : ℕ) (rs : List ℕ) → k ≤ n → in_order (leb k 2) rs ≡ true → bears k rs ≡ true → ((j : ℕ) → 3 ≤ j → j ≤ n → times j rs ≤ 1)
    → Only n k (map (number_of k) rs)
unfolding suppresses bears
only_numbers n k rs l h b s j p q =
    by_test (eqb j k)
    (λ e. let y = eqb-true j k e in
    let a : any is_suppressible rs ≡ true = rw (ne_eqb k 0 (λ z. omega arith)) at b in
    rw (e, y) (by_test (leb k 2)
    (λ m. rw m (le-leb 1 (times k (map (number_of k) rs)) (omega (arith, any_times rs a, times_own k rs))))
    (λ m. rw m (le-leb 2 (times k (map (number_of k) rs)) (omega (arith, any_times rs a, drift_first rs (rw m at h) a, times_own k rs))))))
    (λ e. let y = eqb-false j k e in
    rw e (by_test (leb j 2)
    (λ m. rw (m, times_none k j y p (leb-true j 2 m) rs))
    (λ m. let m' = leb-false j 2 m in rw m (lt-leb 2 (times j (map (number_of k) rs)) (omega (arith, times_other k j y rs, s j (omega arith) q))))))

-- Numbers as roles.
small : (met : Bool) → (1 ≤ cond met 1 2) × (cond met 1 2 ≤ 2)
small true = (omega arith, omega arith)
small false = (omega arith, omega arith)

module _ (k : ℕ) where
  pub length_roles : (met : Bool) (ns : List ℕ) → length (roles_from k met ns) ≡ length ns
  unfolding roles_from
  length_roles met [] = refl
  length_roles met (c ∷ ns) = ap suc (length_roles (met || of_kind k c) ns)

  pub times_roles : (j : ℕ) → 3 ≤ j → (met : Bool) (ns : List ℕ) → times j (roles_from k met ns) ≤ times j ns
  unfolding times roles_from
  times_roles j l met [] = omega arith
  times_roles j l met (c ∷ ns) =
      let i = times_roles j l (met || of_kind k c) ns in
      by_test (of_kind k c)
      (λ e. rw (e, ne_eqb j (cond met 1 2) (λ q. omega (arith, small met))) (omega (arith, rw e at i)))
      (λ e. rw e (omega (arith, rw e at i)))

  pub no_static : 3 ≤ k → (met : Bool) (ns : List ℕ) → times k (roles_from k met ns) ≡ 0
  unfolding times roles_from
  no_static l met [] = refl
  no_static l met (c ∷ ns) =
      let i = no_static l (met || of_kind k c) ns in
      by_test (of_kind k c)
      (λ e. rw (e, ne_eqb k (cond met 1 2) (λ q. omega (arith, small met))) (omega (arith, rw e at i)))
      (λ e. let n : eqb k c ≡ false = eqb_swap k c ∙ rw (lt-ltb 0 k (omega arith)) at e in rw (e, n) (omega (arith, rw e at i)))

  pub borne_met : (ns : List ℕ) → 1 ≤ k → 1 ≤ times k ns → any is_suppressible (roles_from k true ns) ≡ true
  unfolding times roles_from any is_suppressible
  borne_met [] p h = absurd (omega arith)
  borne_met (c ∷ ns) p h =
      by_test (eqb k c)
      (λ e. rw (← eqb-true k c e, own_kind k p))
      (λ e. let z = rw e at h in rw (borne_met ns p (omega arith), or-true))

  pub borne_first : (ns : List ℕ) → 1 ≤ k → 2 ≤ times k ns → any is_suppressible (roles_from k false ns) ≡ true
  unfolding times roles_from any is_suppressible
  borne_first [] p h = absurd (omega arith)
  borne_first (c ∷ ns) p h =
      by_test (eqb k c)
      (λ e. let z = rw e at h in rw (← eqb-true k c e, own_kind k p) (borne_met ns p (omega arith)))
      (λ e. let z = rw e at h in
      let o : of_kind k c ≡ false = other_kind k c (λ q. eqb-false k c e (sym q)) in
      rw (o, borne_first ns p (omega arith)) (or-true (eqb c 1)))

  foreign : (c : ℕ) (ns : List ℕ) (j : ℕ) → 1 ≤ j → ((j ≡ k → ⊥) → times j (c ∷ ns) ≡ 0) → of_kind k c ≡ false → eqb c j ≡ false
  unfolding times
  foreign c ns j p s e = ne_eqb c j (λ x. by_test (eqb j k)
      (λ y. let z = eqb-true j k y in true≢false (sym (own_kind k (omega arith)) ∙ rw (x, z) at e))
      (λ y. let z = rw (eq-eqb j c (sym x)) at (s (eqb-false j k y)) in omega arith))

  pub ordered : (met : Bool) (ns : List ℕ) → ((j : ℕ) → 1 ≤ j → j ≤ 2 → (j ≡ k → ⊥) → times j ns ≡ 0) → in_order met (roles_from k met ns) ≡ true
  unfolding roles_from in_order
  ordered met [] s = refl
  ordered met (c ∷ ns) s =
      let t : (j : ℕ) → 1 ≤ j → j ≤ 2 → (j ≡ k → ⊥) → times j ns ≡ 0 = λ j p q n. (unfold times in omega (arith, s j p q n)) in
      by_test (of_kind k c)
      (λ e. rw e (at met (ordered true ns t)))
      (λ e. rw (e, foreign c ns 1 (omega arith) (s 1 (omega arith) (omega arith)) e, foreign c ns 2 (omega arith) (s 2 (omega arith) (omega arith)) e) (ordered (met || false) ns t))
    where
      at : (m : Bool) → in_order true (roles_from k true ns) ≡ true → in_order m (cond m 1 2 ∷ roles_from k (m || true) ns) ≡ true
      at true i = i
      at false i = i

-- Where the marks stand does not depend on what stands for a digit or a symbol.
abbrev mark_only : ℕ → ℕ
mark_only c = cond (plain_number c) 0 c

mark_eq : (x m : ℕ) → plain_number m ≡ false → eqb (mark_only x) m ≡ eqb x m
mark_eq x m l = by_test (plain_number x)
    (λ e. let n : eqb x m ≡ false = ne_eqb x m (λ q. true≢false (sym e ∙ ap plain_number q ∙ l)) in
    let z : eqb 0 m ≡ false = ne_eqb 0 m (λ q. true≢false (unfold plain_number in (ap plain_number q ∙ l))) in
    rw (e, n, z))
    (λ e. rw e)

mark_plain : (x : ℕ) → plain_number (mark_only x) ≡ plain_number x
mark_plain x = by_test (plain_number x) (λ e. unfold plain_number in rw e) (λ e. rw e e)

same_marks : (xs ms : List ℕ) → any plain_number ms ≡ false → same (map mark_only xs) ms ≡ same xs ms
unfolding same any
same_marks [] [] h = refl
same_marks [] (m ∷ ms) h = refl
same_marks (x ∷ xs) [] h = refl
same_marks (x ∷ xs) (m ∷ ms) h =
    let w = neither (plain_number m) (any plain_number ms) h in
    rw (mark_eq x m w.0, same_marks xs ms w.1)

marks_map : (v : ℕ) (xs : List ℕ) → marks_last v (map mark_only xs) ≡ marks_last v xs
unfolding marks_last
marks_map v [] = refl
marks_map v (x ∷ xs) =
    let p = same_marks (x ∷ xs) (11 ∷ 12 ∷ []) (unfold any plain_number is_punched in refl) in
    let q = same_marks (x ∷ xs) (13 ∷ 14 ∷ []) (unfold any plain_number is_punched in refl) in
    rw (p, q, mark_plain x, marks_map (v - 1) xs)

like : (v : ℕ) (xs ys : List ℕ) → map mark_only xs ≡ map mark_only ys → marks_last v xs ≡ marks_last v ys
like v xs ys e = sym (marks_map v xs) ∙ ap (marks_last v) e ∙ marks_map v ys

plain_digit : (met : Bool) → plain_number (cond met 1 2) ≡ true
unfolding plain_number
plain_digit true = refl
plain_digit false = refl

mark_number_lem : (k : ℕ) → plain_number k ≡ true → (rs : List ℕ) → map mark_only (map (number_of k) rs) ≡ map mark_only rs
mark_number_lem k l [] = refl
mark_number_lem k l (r ∷ rs) =
    by_test (eqb r 1) (λ e. rw (eqb-true r 1 e, l, plain_digit true, mark_number_lem k l rs))
    (λ e. by_test (eqb r 2) (λ q. rw (eqb-true r 2 q, l, plain_digit false, mark_number_lem k l rs)) (λ q. rw (e, q, mark_number_lem k l rs)))

mark_role : (k : ℕ) → plain_number k ≡ true → (met : Bool) (ns : List ℕ) → map mark_only (roles_from k met ns) ≡ map mark_only ns
unfolding roles_from
mark_role k l met [] = refl
mark_role k l met (c ∷ ns) =
    let i = mark_role k l (met || of_kind k c) ns in
    by_test (of_kind k c)
    (λ e. let n : plain_number c ≡ true = ap plain_number (eqb-true c k (both (ltb 0 k) (eqb c k) e).1) ∙ l in
    rw (e, plain_digit met, n, rw e at i))
    (λ e. rw (e, rw e at i))

pub marks_numbers : (v k : ℕ) → plain_number k ≡ true → (rs : List ℕ) → marks_last v (map (number_of k) rs) ≡ marks_last v rs
marks_numbers v k l rs = like v (map (number_of k) rs) rs (mark_number_lem k l rs)

pub marks_roles : (v k : ℕ) → plain_number k ≡ true → (met : Bool) (ns : List ℕ) → marks_last v (roles_from k met ns) ≡ marks_last v ns
marks_roles v k l met ns = like v (roles_from k met ns) ns (mark_role k l met ns)
