-- What the characters of a field tell: a digit shows itself, from whichever list it prints, hidden positions and drifting characters show none, and the two
-- forms of a sign differ. The rule of the lists is one test, and facts about roles are found by computing over all the roles there are. Assumes nothing.
use mathlib.Core.Path.{◌≡◌, refl, sym, ◌∙◌, ap}
use mathlib.Core.Bool.{Bool, true, false, cond, not, ◌&&◌, ◌||◌, true≢false, and-true, or-true}
use Prim.Native.Nat.{ℕ, ◌+◌, ◌*◌, ◌/◌, ◌%◌, ◌<◌, ◌≤◌}
use native.Mathlib.Omega.{arith}
use Prim.Native.Char.{code}
use borrow.Author.Tests.{leb-true, eq-eqb, eqb-true, eqb-false, le-leb, ne_eqb, not-true}
use lib.Dec.{leb, eqb}
use lib.ListN.{get_or}
use Rattle.rules.specs.Words.{place}
use Rattle.rules.specs.Search.{each, first}
use Rattle.rules.specs.Roles.{drifts, drifts_sign, is_b, is_bare, is_digit, is_nine, is_punched, is_sign, is_suppressible, role_limit}
use Rattle.rules.specs.Edit.{digit_char, figures, fill, list_of, mark, printed, suppressed}
use Rattle.rules.specs.Candidate.{digit_in, list_in}
use Rattle.rules.proofs.Lists.{place_holds}
use Rattle.rules.proofs.Search.{each_at}
use Rattle.rules.proofs.Logic.{and_at, both, by_test}

-- The rule of the three lists: no character stands in two of them or twice in one, so that each tells its list and its digit.
pub lists_apart : (k : ℕ) → k < 30 → place (get_or figures k 0) figures ≡ k
unfolding place first each
lists_apart k l = eqb-true _ k (each_at (λ j. eqb (place (get_or figures j 0) figures) j) 30 k refl l)

two_le : (neg : Bool) (a b : ℕ) → a ≤ 2 → b ≤ 2 → cond neg a b ≤ 2
two_le true a b h g = h
two_le false a b h g = g

list_le : (r : ℕ) (neg : Bool) → list_of r neg ≤ 2
unfolding list_of
list_le r neg =
    by_test (eqb r 15) (λ e. rw e (two_le neg _ _ (omega arith) (omega arith)))
    (λ e. by_test (eqb r 16) (λ q. rw (e, q) (two_le neg _ _ (omega arith) (omega arith)))
    (λ q. by_test (eqb r 17) (λ w. rw (e, q, w) (two_le neg _ _ (omega arith) (omega arith))) (λ w. rw (e, q, w) (omega arith))))

-- so does what a digit prints, whatever its symbol is
digit_place : (r : ℕ) (neg : Bool) (d : ℕ) → d < 10 → place (digit_char r neg d) figures ≡ 10 * list_of r neg + d
unfolding digit_char
digit_place r neg d h = lists_apart (10 * list_of r neg + d) (omega (arith, list_le r neg))

pub digit_shows : (r : ℕ) (neg : Bool) (d : ℕ) → d < 10 → digit_in (digit_char r neg d) ≡ d
unfolding digit_in
digit_shows r neg d h = rw (digit_place r neg d h) (omega arith)

-- and a character is what its digit prints exactly where it stands in that list
held : (r : ℕ) (neg : Bool) (c : ℕ) → 10 * list_of r neg + place c figures % 10 ≡ place c figures → place c figures < 30 → digit_char r neg (place c figures % 10) ≡ c
unfolding digit_char
held r neg c z l = rw z (place_holds c figures l)

pub list_tells : (r : ℕ) (neg : Bool) (c : ℕ) → eqb (list_in c) (list_of r neg) ≡ eqb c (digit_char r neg (digit_in c))
unfolding list_in digit_in
list_tells r neg c =
    by_test (eqb (list_in c) (list_of r neg))
    (λ e.
    let q : place c figures / 10 ≡ list_of r neg = eqb-true (place c figures / 10) (list_of r neg) e in
    let l = list_le r neg in
    let z : 10 * list_of r neg + place c figures % 10 ≡ place c figures = omega arith in
    let w = held r neg c z (omega arith) in
    rw e (sym (eq-eqb c (digit_char r neg (place c figures % 10)) (sym w))))
    (λ e. rw e (sym (ne_eqb c (digit_char r neg (place c figures % 10)) (λ w.
    let p = digit_place r neg (place c figures % 10) (omega arith) in
    let q : place c figures ≡ 10 * list_of r neg + place c figures % 10 = ap (λ (x : ℕ). place x figures) w ∙ p in
    eqb-false (place c figures / 10) (list_of r neg) e (omega arith)))))

-- where nothing is punched the digit prints as it is
other_role : (r k : ℕ) → is_punched r ≡ false → is_punched k ≡ true → eqb r k ≡ false
other_role r k h p = ne_eqb r k (λ e. true≢false (sym p ∙ ap is_punched (sym e) ∙ h))

unpunched_list : (r : ℕ) (neg : Bool) → is_punched r ≡ false → list_of r neg ≡ 0
unfolding list_of
unpunched_list r neg h =
    rw (other_role r 15 h (unfold is_punched in refl), other_role r 16 h (unfold is_punched in refl), other_role r 17 h (unfold is_punched in refl))

pub unpunched_char : (r : ℕ) (neg : Bool) (d : ℕ) → is_punched r ≡ false → d < 10 → digit_char r neg d ≡ 48 + d
unfolding digit_char first each
unpunched_char r neg d h l = rw (unpunched_list r neg h) (eqb-true _ (48 + d) (each_at (λ j. eqb (get_or figures (10 * 0 + j) 0) (48 + j)) 10 d refl l))

-- What prints by its role: a bare digit as it is, a punched one from its lists, and all else its mark.
pub printed_bare : (r : ℕ) (neg : Bool) (d : ℕ) → is_bare r ≡ true → d < 10 → printed r neg d ≡ 48 + d
unfolding is_bare printed
printed_bare r neg d b l = let w = both (is_digit r) _ b in rw w.0 (unpunched_char r neg d (not-true _ w.1) l)

pub printed_punched : (r : ℕ) (neg : Bool) (d : ℕ) → is_punched r ≡ true → printed r neg d ≡ digit_char r neg d
unfolding printed is_digit is_nine
printed_punched r neg d p = rw (p, or-true (eqb r 0))

pub printed_mark : (r : ℕ) (neg : Bool) (d : ℕ) → is_bare r ≡ false → is_punched r ≡ false → printed r neg d ≡ mark r neg
unfolding is_bare printed
printed_mark r neg d b p = let n : is_digit r ≡ false = rw (p, and-true) at b in rw n

-- a sign is a digit with two lists, or has two marks
pub printed_differs : (r d : ℕ) → r < role_limit → d < 10 → is_sign r ≡ true → printed r true d ≡ printed r false d → ⊥
unfolding printed is_sign is_digit is_nine is_punched is_suppressible mark list_of first each
printed_differs r d l b e q =
    let p : ℕ → Bool = λ j. not (is_sign j) || cond (is_digit j) (not (eqb (list_of j true) (list_of j false))) (not (eqb (mark j true) (mark j false))) in
    let c : cond (is_digit r) (not (eqb (list_of r true) (list_of r false))) (not (eqb (mark r true) (mark r false))) ≡ true = rw e at (each_at p role_limit r refl l) in
    by_test (is_digit r)
    (λ g.
    let n = eqb-false (list_of r true) (list_of r false) (not-true _ (rw g at c)) in
    let s = sym (digit_place r true d b) ∙ ap (λ (x : ℕ). place x figures) (rw g at q) ∙ digit_place r false d b in
    n (omega arith))
    (λ g. eqb-false (mark r true) (mark r false) (not-true _ (rw g at c)) (rw g at q))

-- a sign that is a digit is a nine
pub sign_nine : (r : ℕ) → r < role_limit → is_sign r ≡ true → is_digit r ≡ true → is_nine r ≡ true
unfolding is_sign is_digit is_nine is_punched is_suppressible first each
sign_nine r l e d = rw (e, d) at (each_at (λ j. not (is_sign j) || (not (is_digit j) || is_nine j)) role_limit r refl l)

pub mark_differs : (kind : ℕ) → drifts_sign kind ≡ true → mark kind true ≡ mark kind false → ⊥
unfolding mark drifts_sign first each
mark_differs kind e q =
    let l : kind < 6 = omega (arith, leb-true kind 5 (both (leb 3 kind) _ e).1) in
    let p : ℕ → Bool = λ j. not (drifts_sign j) || not (eqb (mark j true) (mark j false)) in
    let c : not (eqb (mark kind true) (mark kind false)) ≡ true = rw e at (each_at p 6 kind refl l) in
    eqb-false (mark kind true) (mark kind false) (not-true _ c) q

pub sign_drifts : (kind : ℕ) → drifts_sign kind ≡ true → drifts kind ≡ true
unfolding drifts_sign drifts
sign_drifts kind e =
    let w = both (leb 3 kind) _ e in
    rw w.0 (le-leb kind 6 (omega (arith, leb-true kind 5 w.1)))

pub none_shows : digit_in 0 ≡ 0
unfolding digit_in place
none_shows = refl

pub hidden_shows : (kind r : ℕ) → digit_in (suppressed kind r) ≡ 0
unfolding digit_in place suppressed fill
hidden_shows kind r =
    by_test (is_b r)
    (λ b. rw b)
    (λ b. rw b (elim (eqb kind 2) as (λ b. digit_in (cond b (code "*") (code " ")) ≡ 0) [ true ↦ refl | false ↦ refl ]))

-- where a symbol drifts, a hidden position shows a blank whatever it is
pub hidden_blank : (kind r : ℕ) → drifts kind ≡ true → suppressed kind r ≡ code " "
unfolding suppressed fill drifts
hidden_blank kind r d =
    let l = leb-true 3 kind (both (leb 3 kind) _ d).0 in
    rw (ne_eqb kind 2 (λ q. omega arith)) (by_test (is_b r) (λ b. rw b) (λ b. rw b))

pub b_no_digit : (r : ℕ) → is_b r ≡ true → is_digit r ≡ false
unfolding is_b is_digit is_nine is_punched is_suppressible
b_no_digit r b = rw (eqb-true r 10 b)

pub mark_shows : (kind : ℕ) (neg : Bool) → drifts kind ≡ true → digit_in (mark kind neg) ≡ 0
unfolding digit_in place mark drifts first each
mark_shows kind neg e =
    let l : kind < 7 = omega (arith, leb-true kind 6 (both (leb 3 kind) _ e).1) in
    eqb-true (digit_in (mark kind neg)) 0 (and_at (λ b. eqb (digit_in (mark kind b)) 0) neg (each_at (λ j. eqb (digit_in (mark j true)) 0 && eqb (digit_in (mark j false)) 0) 7 kind refl l))

pub digit_small : (c : ℕ) → digit_in c < 10
unfolding digit_in
digit_small c = omega arith
