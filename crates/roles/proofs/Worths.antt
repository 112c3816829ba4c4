-- What a byte tells of the lists, its digit and its list, by the ranges of the character set in which they
-- lie: two tests that are computed over all bytes. Assumes nothing.
use mathlib.Core.Path.{◌≡◌, refl, sym, ◌∙◌}
use mathlib.Core.Bool.{cond}
use Prim.Native.Nat.{ℕ, ◌+◌, ◌-◌, ◌<◌}
use borrow.Author.Tests.{eqb-true}
use lib.Dec.{eqb, leb, ltb}
use Rattle.rules.specs.Words.{place}
use Rattle.rules.specs.Search.{each, first}
use Rattle.rules.specs.Candidate.{digit_in, list_in}
use Rattle.rules.proofs.Characters.{digit_small}
use Rattle.rules.proofs.Search.{each_at}

abbrev pub worth_by : ℕ → ℕ
worth_by c = cond (ltb c 48) 0 (cond (leb c 57) (c - 48) (cond (ltb c 65) 0 (cond (leb c 73) (c - 65 + 1) (cond (leb c 82) (c - 74 + 1) 0))))

worth_by_lem : (c : ℕ) → c < 256 → worth_by c ≡ digit_in c
unfolding digit_in place first each
worth_by_lem c l = eqb-true (worth_by c) (digit_in c) (each_at (λ b. eqb (worth_by b) (digit_in b)) 256 c refl l)

pub is_worth : (c x : ℕ) → c < 256 → worth_by c ≡ x → (x ≡ digit_in c) × (x < 10)
is_worth c x l e = let w : x ≡ digit_in c = sym e ∙ worth_by_lem c l in (w, rw w (digit_small c))

abbrev pub list_by : ℕ → ℕ
list_by c = cond (ltb c 48) 3 (cond (leb c 57) 0 (cond (ltb c 65) 3 (cond (leb c 73) 1 (cond (leb c 82) 2 (cond (eqb c 123) 1 (cond (eqb c 125) 2 3))))))

list_by_lem : (c : ℕ) → c < 256 → list_by c ≡ list_in c
unfolding list_in place first each
list_by_lem c l = eqb-true (list_by c) (list_in c) (each_at (λ b. eqb (list_by b) (list_in b)) 256 c refl l)

pub is_list : (c x : ℕ) → c < 256 → list_by c ≡ x → x ≡ list_in c
is_list c x l e = sym e ∙ list_by_lem c l
