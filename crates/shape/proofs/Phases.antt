-- The machine's phase is an image of what has been seen: one role further is one step of the table. The rule
-- of the table speaks of what each phase stands for; that all which leads to a phase is led on alike is a
-- test that is computed over all flags, roles just seen and columns. Assumes nothing.
use Prim.Native.Nat.{ℕ, ◌+◌, ◌<◌, ◌≤◌}
use mathlib.Core.Path.{◌≡◌, refl, ap, ◌∙◌}
use mathlib.Core.Bool.{Bool, true, false, cond, not, ◌&&◌, ◌||◌, and-false, false≢true}
use mathlib.Core.List.{List, [], ◌∷◌}
use native.Mathlib.Omega.{arith}
use borrow.Author.Tests.{eqb-true, le-ltb, leb-true, lt-leb, ltb-true, ltb-false, ne_eqb}
use lib.Dec.{eqb, leb, ltb}
use lib.ListN.{get_or}
use Rattle.rules.specs.Roles.{is_digit, is_first_drifting, is_nine, is_punched, is_static, is_suppressible, role_limit}
use Rattle.rules.specs.Good.{plain_number}
use Rattle.rules.proofs.Lists.{all_below, all_below_lem}
use Rattle.rules.proofs.Logic.{and_at, both, by_test}
use Rattle.rules.proofs.Search.{get_d_up_to}
use Rattle.shape.specs.declared.machine.Walked.{Walked}
use Rattle.shape.specs.Machine.{Seen, column_of, columns, entry, keeps, machine, opens_mark, phase_of, seen_all, seen_at, seen_next, seen_none, unbroken, walked_all, walked_next}

-- what holds of all that can be seen, so that a phase leaves nothing to ask
unfoldable pub sane : Seen → Bool
sane s =
    not s.kept
    || ltb s.last role_limit && ((not s.nine || s.begun) && ((not s.astray || s.begun) && (not s.begun || (s.met || s.nine))))

-- One step, computed.
unfoldable leads : Seen → ℕ → Bool
leads s r = not (sane s) || (eqb (entry (phase_of s + r)) (phase_of (seen_next s r)) && sane (seen_next s r))

abbrev each_way : (Bool → Bool) → Bool
each_way p = p true && p false

abbrev leads_from : Bool → Bool → Bool → Bool → Bool
leads_from met begun astray nine =
    all_below role_limit (λ last. all_below columns (λ r. leads (record { kept = true; last = last; met = met; begun = begun; astray = astray; nine = nine }) r))

all_lead : each_way (λ m. each_way (λ b. each_way (λ a. each_way (λ n. leads_from m b a n)))) ≡ true
unfolding all_below leads entry seen_at phase_of sane seen_next plain_number is_first_drifting is_digit is_nine is_punched is_suppressible is_static
all_lead = refl

seen_leads : (m b a n : Bool) (last r : ℕ) → last < role_limit → r < columns
    → leads (record { kept = true; last = last; met = m; begun = b; astray = a; nine = n }) r ≡ true
seen_leads m b a n last r l h =
    let m' = and_at (λ m. each_way (λ b. each_way (λ a. each_way (λ n. leads_from m b a n)))) m all_lead in
    let b' = and_at (λ b. each_way (λ a. each_way (λ n. leads_from m b a n))) b m' in
    let a' = and_at (λ a. each_way (λ n. leads_from m b a n)) a b' in
    let n' = and_at (λ n. leads_from m b a n) n a' in
    all_below_lem columns _ (all_below_lem role_limit _ n' last l) r h

-- a byte that is no role breaks a rule
keeps_out : (s : Seen) (r : ℕ) → role_limit ≤ r → keeps s r ≡ false
unfolding plain_number
keeps_out s r l =
    rw (ne_eqb r 11 (λ e. omega arith), ne_eqb r 12 (λ e. omega arith), ne_eqb r 13 (λ e. omega arith), ne_eqb r 14 (λ e. omega arith), lt-leb r 10 (omega arith), le-ltb r role_limit l)
    (simp and-false)

out : (s : Seen) (r : ℕ) → role_limit ≤ r → (seen_next s r).kept ≡ false
unfolding seen_next
out s r l = rw (keeps_out s r l) (and-false s.kept)

column_lt : (r : ℕ) → column_of r < columns
unfolding column_of
column_lt r = by_test (ltb r role_limit) (λ e. let h = ltb-true r role_limit e in rw e (omega arith)) (λ e. rw e (omega arith))

implied : (a b : Bool) → a ≡ true → (not a || b) ≡ true → b ≡ true
implied true b e h = h
implied false b e h = absurd (false≢true e)

-- where a rule is broken
lost : (s : Seen) → s.kept ≡ false → (phase_of s ≡ 0) × (sane s ≡ true)
unfolding phase_of sane
lost s e = rw e (refl, refl)

seen_is : (s : Seen) → s.kept ≡ true → s ≡ record { kept = true; last = s.last; met = s.met; begun = s.begun; astray = s.astray; nine = s.nine }
seen_is s k = ap (λ k. record { kept = k; last = s.last; met = s.met; begun = s.begun; astray = s.astray; nine = s.nine }) k

sane_last : (s : Seen) → s.kept ≡ true → sane s ≡ true → s.last < role_limit
unfolding sane
sane_last s k t = let q = rw k at t in ltb-true s.last role_limit (both (ltb s.last role_limit) _ q).0

-- The phases: none begins past the last row, and V or the end may stand where no rule is broken and no mark
-- broken off.
module _ (k x y p m a n b : Bool) where
  abbrev chosen : ℕ
  chosen = cond (not k) 0 (cond x 19 (cond y 38 (cond (not p) 57 (cond m (cond a 190 (cond n 171 (cond b 152 133))) (cond a 114 (cond n 95 76))))))

phase_cases : (k x y p m a n b : Bool) → (leb unbroken (chosen k x y p m a n b) ≡ (k && not (x || y))) × (leb (chosen k x y p m a n b) 190 ≡ true)
phase_cases false x y p m a n b = (refl, refl)
phase_cases true true y p m a n b = (refl, refl)
phase_cases true false true p m a n b = (refl, refl)
phase_cases true false false false m a n b = (refl, refl)
phase_cases true false false true true true n b = (refl, refl)
phase_cases true false false true true false true b = (refl, refl)
phase_cases true false false true true false false true = (refl, refl)
phase_cases true false false true true false false false = (refl, refl)
phase_cases true false false true false true n b = (refl, refl)
phase_cases true false false true false false true b = (refl, refl)
phase_cases true false false true false false false b = (refl, refl)

pub phase_unbroken : (s : Seen) → leb unbroken (phase_of s) ≡ (s.kept && not (opens_mark s.last))
unfolding phase_of
phase_unbroken s =
    (phase_cases s.kept (eqb s.last 11) (eqb s.last 13) (plain_number s.last) s.met s.astray s.nine s.begun).0

phase_le : (s : Seen) → phase_of s ≤ 190
unfolding phase_of
phase_le s =
    leb-true _ 190 (phase_cases s.kept (eqb s.last 11) (eqb s.last 13) (plain_number s.last) s.met s.astray s.nine s.begun).1

-- One role further is one step of the table: from what can be seen by each column, and then by each byte.
entry_at : (s : Seen) (c : ℕ) → c < columns → get_or machine (phase_of s + c) 0 ≡ entry (phase_of s + c)
unfolding machine
entry_at s c l = get_d_up_to entry 285 (phase_of s + c) (omega (arith, phase_le s))

abbrev Step : Seen → ℕ → ℕ → Type 0
Step s c r = (get_or machine (phase_of s + c) 0 ≡ phase_of (seen_next s r)) × (sane (seen_next s r) ≡ true)

by_column : (s : Seen) (r : ℕ) → s.kept ≡ true → sane s ≡ true → r < columns → Step s r r
unfolding leads
by_column s r k t h =
    let w = seen_leads s.met s.begun s.astray s.nine s.last r (sane_last s k t) h in
    let found = eqb (entry (phase_of s + r)) (phase_of (seen_next s r)) in
    let m = implied (sane s) (found && sane (seen_next s r)) t (ap (λ x. leads x r) (seen_is s k) ∙ w) in
    let p = both found (sane (seen_next s r)) m in
    (entry_at s r h ∙ eqb-true (entry (phase_of s + r)) (phase_of (seen_next s r)) p.0, p.1)

-- where a rule is broken, where the byte is a role, and where it is none
stays : (c : ℕ) → c < columns → entry c ≡ 0
unfolding all_below entry seen_at phase_of seen_next
stays c l = eqb-true (entry c) 0 (all_below_lem columns (λ c. eqb (entry c) 0) refl c l)

broken : (s : Seen) (r : ℕ) → s.kept ≡ false → Step s (column_of r) r
broken s r k =
    let z : 0 + column_of r ≡ column_of r = omega arith in
    let n = lost (seen_next s r) (unfold seen_next in rw k) in
    (entry_at s (column_of r) (column_lt r) ∙ rw ((lost s k).0, n.0, z) (stays (column_of r) (column_lt r)), n.1)

within : (s : Seen) (r : ℕ) → sane s ≡ true → s.kept ≡ true → ltb r role_limit ≡ true → Step s (column_of r) r
within s r t k e =
    let c : column_of r ≡ r = unfold column_of in rw e in
    let h = ltb-true r role_limit e in
    rw c (by_column s r k t (omega arith))

past : (s : Seen) (r : ℕ) → sane s ≡ true → s.kept ≡ true → ltb r role_limit ≡ false → Step s (column_of r) r
past s r t k e =
    let c : column_of r ≡ role_limit = unfold column_of in rw e in
    let n = lost (seen_next s r) (out s r (ltb-false r role_limit e)) in
    let w = (by_column s role_limit k t (omega arith)).0 in
    let z = (lost (seen_next s role_limit) (out s role_limit (omega arith))).0 in
    rw (c, n.0) (w ∙ z, n.1)

step : (s : Seen) (r : ℕ) → sane s ≡ true → Step s (column_of r) r
step s r t = by_test s.kept (λ k. by_test (ltb r role_limit) (within s r t k) (past s r t k)) (broken s r)

-- all roles further
pub walked_phase : (weight : List ℕ) (s : Seen) (w : Walked) (rs : List ℕ) → sane s ≡ true → w.phase ≡ phase_of s
    → ((walked_all machine weight w rs).phase ≡ phase_of (seen_all s rs)) × (sane (seen_all s rs) ≡ true)
unfolding walked_all seen_all
walked_phase weight s w [] t e = (e, t)
walked_phase weight s w (r ∷ rs) t e =
    let q = step s r t in
    walked_phase weight (seen_next s r) (walked_next machine weight w r) rs q.1 (unfold walked_next in ap (λ p. get_or machine (p + column_of r) 0) e ∙ q.0)

pub none_sane : (kind : ℕ) → sane (seen_none kind) ≡ true
unfolding sane seen_none
none_sane kind = refl
