-- What has been seen decides the rules that the machine holds. Each rule is restated "from here on", with
-- what has been seen as its argument; one role more is then one small law a rule, and the pass takes all
-- rules one role further. V has no part in it: at its place the same pass is looked at once more. Assumes
-- nothing.
use Prim.Native.Nat.{ℕ, zero, suc, ◌-◌}
use mathlib.Core.Path.{◌≡◌, refl, sym, ap, ◌∙◌}
use mathlib.Core.Bool.{Bool, true, false, cond, not, ◌&&◌, ◌||◌, and-false, and_assoc, and-true, or-false, false≢true}
use mathlib.Core.List.{List, [], ◌∷◌}
use native.Mathlib.Omega.{arith}
use borrow.Author.Tests.{eqb-true, ne_eqb}
use lib.Dec.{eqb, leb}
use lib.ListN.{take, drop}
use lib.Seq.{take-nil}
use Rattle.rules.specs.Words.{any, same}
use Rattle.rules.specs.Roles.{is_digit, is_first_drifting, is_nine, is_punched, is_static, is_suppressible}
use Rattle.rules.specs.Shape.{nines_last, statics_placed}
use Rattle.rules.specs.Good.{in_order, marks_last, plain_number}
use Rattle.rules.proofs.Lists.{same_eq}
use Rattle.rules.proofs.Logic.{both, by_or, by_test, neither}
use Rattle.shape.specs.Machine.{Seen, keeps, may_follow, may_meet, opens_mark, seen_all, seen_next, seen_none}

order_more : (met : Bool) (r : ℕ) (rs : List ℕ) → in_order met (r ∷ rs) ≡ (may_meet met r && in_order (met || is_first_drifting r) rs)
unfolding in_order is_first_drifting is_suppressible
order_more met r rs =
    by_test (eqb r 2) (λ e. rw (eqb-true r 2 e) (first met)) (λ e. by_test (eqb r 1) (λ f. rw (eqb-true r 1 f) (second met)) (λ f. rw (e, f)))
  where
    first : (m : Bool) → (not m && in_order (m || true) rs) ≡ ((not m && true) && in_order (m || true) rs)
    first true = refl
    first false = refl

    second : (m : Bool) → (m && in_order (m || false) rs) ≡ (not (not m) && in_order (m || false) rs)
    second true = refl
    second false = refl

-- no suppressible digit follows a nine that was seen or is to come
since : Bool → List ℕ → Bool
since nine rs = not (nine && any is_suppressible rs) && nines_last rs

since_law : (nine supp n x l : Bool) → (not (nine && (supp || x)) && (not (n && x) && l)) ≡ (not (supp && nine) && (not ((nine || n) && x) && l))
since_law false true n x l = refl
since_law false false n x l = refl
since_law true true n x l = refl
since_law true false n true l = refl
since_law true false n false l = rw and-false

since_more : (nine : Bool) (r : ℕ) (rs : List ℕ) → since nine (r ∷ rs) ≡ (not (is_suppressible r && nine) && since (nine || is_nine r) rs)
unfolding since any nines_last
since_more nine r rs = since_law nine (is_suppressible r) (is_nine r) (any is_suppressible rs) (nines_last rs)

-- no digit follows a static symbol that was seen astray, and the rule holds of those to come
free : Bool → Bool → List ℕ → Bool
free astray begun rs = not (astray && any is_digit rs) && statics_placed begun rs

free_law : (astray dig x s b l : Bool)
    → (not (astray && (dig || x)) && (not (s && b && x) && l)) ≡ (not (dig && astray) && (not ((astray || s && b) && x) && l))
free_law false true x s b l = refl
free_law false false x s b l = refl
free_law true true x s b l = refl
free_law true false true s b l = refl
free_law true false false s b l = rw and-false

free_more : (astray begun : Bool) (r : ℕ) (rs : List ℕ)
    → free astray begun (r ∷ rs) ≡ (not (is_digit r && astray) && free (astray || is_static r && begun) (begun || is_digit r || is_first_drifting r) rs)
unfolding free any statics_placed
free_more astray begun r rs =
    free_law astray (is_digit r) (any is_digit rs) (is_static r) begun (statics_placed (begun || is_digit r || is_first_drifting r) rs)

-- CR and DB, by the role just seen
marks_from : ℕ → List ℕ → Bool
marks_from last rs =
    cond (eqb last 11) (same rs (12 ∷ [])) (cond (eqb last 13) (same rs (14 ∷ [])) (cond (plain_number last) (marks_last 0 rs) (same rs [])))

-- where the role just seen is plain
plain_more : (r : ℕ) (rs : List ℕ) → marks_last 0 (r ∷ rs) ≡ ((plain_number r || opens_mark r) && marks_from r rs)
unfolding marks_from marks_last same
plain_more r rs =
    by_test (eqb r 11) (λ e. rw (eqb-true r 11 e) (unfold plain_number is_punched in simp or-false))
    (λ e. by_test (eqb r 13) (λ f. rw (eqb-true r 13 f) (unfold plain_number is_punched in simp or-false))
    (λ f. by_test (plain_number r) (λ p. rw (e, f, p)) (λ p. rw (e, f, p))))

marks_more : (last r : ℕ) (rs : List ℕ) → marks_from last (r ∷ rs) ≡ (may_follow last r && marks_from r rs)
marks_more last r rs =
    by_test (eqb last 11) (λ e. rw (eqb-true last 11 e) (unfold marks_from same plain_number is_punched in by_test (eqb r 12) (λ f. rw (eqb-true r 12 f)) (λ f. rw f)))
    (λ e. by_test (eqb last 13) (λ f. rw (eqb-true last 13 f) (unfold marks_from same plain_number is_punched in by_test (eqb r 14) (λ g. rw (eqb-true r 14 g)) (λ g. rw g)))
    (λ f. by_test (plain_number last)
    (λ p. let u : marks_from last (r ∷ rs) ≡ marks_last 0 (r ∷ rs) = unfold marks_from in rw (e, f, p) in rw (u, e, f, p) (plain_more r rs))
    (λ p. let u : marks_from last (r ∷ rs) ≡ false = unfold marks_from same in rw (e, f, p) in rw (u, e, f, p))))

-- nothing left to come
since_nil : (nine : Bool) → since nine [] ≡ true
unfolding since any nines_last
since_nil nine = rw and-false

free_nil : (astray begun : Bool) → free astray begun [] ≡ true
unfolding free any statics_placed
free_nil astray begun = rw and-false

marks_nil : (last : ℕ) → marks_from last [] ≡ not (opens_mark last)
unfolding marks_from marks_last same
marks_nil last =
    by_test (eqb last 11) (λ e. rw e)
    (λ e. by_test (eqb last 13) (λ f. rw (e, f)) (λ f. by_test (plain_number last) (λ p. rw (e, f, p)) (λ p. rw (e, f, p))))

pub and_swap : (a b c : Bool) → (a && (b && c)) ≡ (b && (a && c))
and_swap true b c = refl
and_swap false b c = sym (and-false b)

-- All of them together: the rest breaks none.
rest : Seen → List ℕ → Bool
rest s rs = in_order s.met rs && (since s.nine rs && (free s.astray s.begun rs && marks_from s.last rs))

rest_nil : (s : Seen) → rest s [] ≡ not (opens_mark s.last)
unfolding rest in_order
rest_nil s = rw (since_nil, free_nil, marks_nil)

shuffle : (a b c d A B C D : Bool) → ((a && A) && ((b && B) && ((c && C) && (d && D)))) ≡ ((a && (b && (c && d))) && (A && (B && (C && D))))
shuffle a b c d A B C D = simp (and_assoc, and_swap)

rest_more : (s : Seen) (r : ℕ) (rs : List ℕ) → rest s (r ∷ rs) ≡ (keeps s r && rest (seen_next s r) rs)
unfolding rest seen_next
rest_more s r rs =
    rw (order_more s.met r rs, since_more s.nine r rs, free_more s.astray s.begun r rs, marks_more s.last r rs)
    (shuffle (may_meet s.met r) (not (is_suppressible r && s.nine)) (not (is_digit r && s.astray)) (may_follow s.last r)
    (in_order (s.met || is_first_drifting r) rs) (since (s.nine || is_nine r) rs)
    (free (s.astray || is_static r && s.begun) (s.begun || is_digit r || is_first_drifting r) rs) (marks_from r rs))

-- what has been seen holds, and a mark is not broken off
abbrev pub whole : Seen → Bool
whole s = s.kept && not (opens_mark s.last)

whole_rest : (s : Seen) (rs : List ℕ) → whole (seen_all s rs) ≡ (s.kept && rest s rs)
unfolding seen_all
whole_rest s [] = rw rest_nil
whole_rest s (r ∷ rs) = whole_rest (seen_next s r) rs ∙ rw (rest_more s r rs) (unfold seen_next in and_assoc s.kept (keeps s r) (rest (seen_next s r) rs))

-- from the first role on
whole_all : (kind : ℕ) (rs : List ℕ)
    → whole (seen_all (seen_none kind) rs) ≡ (in_order (leb kind 2) rs && (nines_last rs && (statics_placed false rs && marks_last 0 rs)))
unfolding seen_none
whole_all kind rs = unfold rest since free marks_from plain_number in whole_rest (seen_none kind) rs

-- V. The pass up to V and the pass from there on are one pass, and what it finds broken stays so.
pub seen_split : (s : Seen) (v : ℕ) (rs : List ℕ) → seen_all s rs ≡ seen_all (seen_all s (take v rs)) (drop v rs)
unfolding seen_all
seen_split s zero rs = refl
seen_split s (suc v) [] = refl
seen_split s (suc v) (r ∷ rs) = seen_split (seen_next s r) v rs

kept_before : (s : Seen) (rs : List ℕ) → (seen_all s rs).kept ≡ true → s.kept ≡ true
unfolding seen_all seen_next
kept_before s [] h = h
kept_before s (r ∷ rs) h = (both s.kept (keeps s r) (kept_before (seen_next s r) rs h)).0

plain_closed : (r : ℕ) → plain_number r ≡ true → opens_mark r ≡ false
unfolding plain_number is_punched
plain_closed r p =
    by_test (eqb r 11) (λ e. absurd (false≢true (rw (eqb-true r 11 e) at p)))
    (λ e. by_test (eqb r 13) (λ f. absurd (false≢true (rw (eqb-true r 13 f) at p))) (λ f. rw (e, f)))

-- one of the two marks, and nothing else
abbrev is_marks : List ℕ → Bool
is_marks rs = same rs (11 ∷ 12 ∷ []) || same rs (13 ∷ 14 ∷ [])

marks_plain : (v r : ℕ) (rs : List ℕ) → plain_number r ≡ true → marks_last v (r ∷ rs) ≡ marks_last (v - 1) rs
unfolding marks_last same
marks_plain v r rs p = let n = neither (eqb r 11) (eqb r 13) (plain_closed r p) in rw (n.0, n.1, p) (rw and-false)

marks_other : (v r : ℕ) (rs : List ℕ) → plain_number r ≡ false → marks_last v (r ∷ rs) ≡ (not (eqb v 1) && is_marks (r ∷ rs))
unfolding marks_last
marks_other v r rs p = rw p (or-false _)

-- V breaks a mark off where it stands behind the first letter
apart : (s : Seen) (v a b : ℕ) (rs : List ℕ) → rs ≡ a ∷ b ∷ [] → opens_mark a ≡ true → opens_mark b ≡ false
    → not (eqb (suc v) 1) ≡ not (opens_mark (seen_all s (take (suc v) rs)).last)
unfolding seen_all seen_next
apart s zero a b rs e oa ob = rw (e, oa)
apart s (suc v) a b rs e oa ob = rw (e, take-nil v, ob, ne_eqb (suc (suc v)) 1 (λ q. omega arith))

-- the rule on marks is that without V, and that V breaks none off
marks_split : (s : Seen) (v : ℕ) (rs : List ℕ) → plain_number s.last ≡ true
    → marks_last v rs ≡ (marks_last 0 rs && not (opens_mark (seen_all s (take v rs)).last))
unfolding seen_all
marks_split s zero rs p = rw (plain_closed s.last p) (sym (and-true _))
marks_split s (suc v) [] p = unfold marks_last in rw (plain_closed s.last p)
marks_split s (suc v) (r ∷ rs) p =
    by_test (plain_number r)
    (λ q.
    let e : suc v - 1 ≡ v = omega arith in
    rw (marks_plain (suc v) r rs q, marks_plain 0 r rs q, e) (marks_split (seen_next s r) v rs (unfold seen_next in q)))
    (λ q.
    rw (marks_other (suc v) r rs q, marks_other 0 r rs q)
    (by_test (is_marks (r ∷ rs)) (λ m. rw m (and-true (not (eqb (suc v) 1)) ∙ one_mark m)) (λ m. rw m (and-false (not (eqb (suc v) 1))))))
  where
    one_mark : is_marks (r ∷ rs) ≡ true → not (eqb (suc v) 1) ≡ not (opens_mark (seen_all s (take (suc v) (r ∷ rs))).last)
    one_mark m =
        by_or (same (r ∷ rs) (11 ∷ 12 ∷ [])) (same (r ∷ rs) (13 ∷ 14 ∷ [])) m
        (λ h. apart s v 11 12 (r ∷ rs) (same_eq (r ∷ rs) (11 ∷ 12 ∷ []) h) refl refl)
        (λ h. apart s v 13 14 (r ∷ rs) (same_eq (r ∷ rs) (13 ∷ 14 ∷ []) h) refl refl)

-- Both looks at the pass, at V and at the end, decide the rules with V's.
abbrev at_v : ℕ → ℕ → List ℕ → Seen
at_v kind v rs = seen_all (seen_none kind) (take v rs)

whole_before : (kind v : ℕ) (rs : List ℕ) → whole (seen_all (seen_none kind) rs) ≡ true → whole (at_v kind v rs) ≡ not (opens_mark (at_v kind v rs).last)
whole_before kind v rs h =
    let k = kept_before (at_v kind v rs) (drop v rs) (ap (λ s. s.kept) (sym (seen_split (seen_none kind) v rs)) ∙ (both _ _ h).0) in
    rw k

by_v : (w e l : Bool) → (e ≡ true → w ≡ l) → (w && e) ≡ (e && l)
by_v w true l h = and-true w ∙ h refl
by_v w false l h = and-false w

pub whole_judged : (kind v : ℕ) (rs : List ℕ)
    → (whole (at_v kind v rs) && whole (seen_all (seen_none kind) rs)) ≡ (in_order (leb kind 2) rs && (nines_last rs && (statics_placed false rs && marks_last v rs)))
whole_judged kind v rs =
    let plain : plain_number (seen_none kind).last ≡ true = unfold seen_none plain_number in refl in
    by_v (whole (at_v kind v rs)) (whole (seen_all (seen_none kind) rs)) (not (opens_mark (at_v kind v rs).last)) (whole_before kind v rs)
    ∙ rw (whole_all kind rs, marks_split (seen_none kind) v rs plain) (simp and_assoc)
