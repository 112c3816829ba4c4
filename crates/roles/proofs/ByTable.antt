-- By the table of characters a call answers what the rules say: a column of the marks by computing over those
-- there are, a digit because the lists stand behind both rows of marks. Assumes nothing.
use mathlib.Core.Path.{◌≡◌, refl, sym}
use mathlib.Core.Bool.{Bool, true, false}
use mathlib.Core.List.{◌++◌}
use Prim.Native.Nat.{ℕ, ◌+◌, ◌*◌, ◌<◌, ◌≤◌}
use borrow.Author.Tests.{eqb-true, leb-true, leb-false, lt-ltb, le-ltb}
use lib.Dec.{eqb, leb}
use lib.ListN.{get_or-eq_default}
use lib.Seq.{get_or-append-add}
use Rattle.rules.specs.Edit.{digit_char, figures, list_of, mark, marks}
use Rattle.rules.proofs.Lists.{all_below_lem, all_below}
use Rattle.rules.proofs.Logic.{by_test}
use Rattle.roles.specs.Table.{characters, figure_by, mark_by}
use Rattle.roles.proofs.Columns.{no_column}

column_by : (r : ℕ) (negative : Bool) → r < 15 → mark_by characters r negative ≡ mark r negative
unfolding all_below characters mark mark_by
column_by r true l = eqb-true _ _ (all_below_lem 15 (λ k. eqb (mark_by characters k true) (mark k true)) refl r l)
column_by r false l = eqb-true _ _ (all_below_lem 15 (λ k. eqb (mark_by characters k false) (mark k false)) refl r l)

pub mark_by_lem : (r : ℕ) (negative : Bool) → mark_by characters r negative ≡ mark r negative
unfolding mark_by
mark_by_lem r negative =
    by_test (leb 15 r)
    (λ e. let h : 15 ≤ r = leb-true 15 r e in rw (le-ltb r 15 h) (no_column r negative h))
    (λ e. column_by r negative (leb-false 15 r e))

pub figure_by_lem : (r : ℕ) (negative : Bool) (d : ℕ) → d < 10 → figure_by characters r negative d ≡ digit_char r negative d
unfolding characters digit_char figure_by
figure_by_lem r negative d l =
    let n = 10 * list_of r negative + d in
    by_test (leb 30 n)
    (λ e. let h : 30 ≤ n = leb-true 30 n e in rw (le-ltb n 30 h) (sym (get_or-eq_default figures 0 h)))
    (λ e. rw (lt-ltb n 30 (leb-false 30 n e)) (get_or-append-add (marks false ++ marks true) figures n 0))
