-- What has been walked and what is still to come give what the whole gives; a phase is a byte, and each role
-- adds one weight at the most. Assumes nothing.
use borrow.Author.Rules.{rules}
use Prim.Native.Nat.{ℕ, ◌+◌, ◌≤◌, ◌<◌}
use mathlib.Core.Path.{◌≡◌, sym, ◌∙◌}
use mathlib.Core.List.{List, []}
use native.Mathlib.Numerals.{add-one}
use native.Mathlib.Omega.{arith}
use lib.ListN.{length, drop, get_or, drop_of_length-le}
use lib.Seq.{drop-cons}
use Rattle.shape.specs.declared.machine.Walked.{Walked}
use Rattle.shape.specs.Machine.{walked_all, walked_next}
use Rattle.shape.proofs.machine.Judge.walk.Goals as goal

-- one turn of the loop
walked_more : (next weight : List ℕ) (w : Walked) (rs : List ℕ) (i : ℕ) → i < length rs
    → walked_all next weight w (drop i rs) ≡ walked_all next weight (walked_next next weight w (get_or rs i 0)) (drop (i + 1) rs)
unfolding walked_all
walked_more next weight w rs i l = rw (add-one i, drop-cons rs i 0 l)

pub loop-role-init : goal.loop-role-init
loop-role-init c = search rules

pub loop-role-preserved : goal.loop-role-preserved
unfolding walked_next
loop-role-preserved c =
    let judge = c.args.self.now in
    let walked : Walked = record { phase = c.loop-role.phase; sum = c.loop-role.sum } in
    let more = walked_more judge.next judge.weight walked c.args.roles.now c.loop-role.role-index c.loop-role-test.true in
    let weight : get_or judge.weight c.column-column.result 0 < 4294967296 = search rules in (
      omega (arith, c.loop-role-test.true),
      search rules,
      omega (arith, weight, c.loop-role.invariant.2),
      rw c.column-column.ensures.0 (sym more ∙ c.loop-role.invariant.3),
    )

pub returns : goal.returns
unfolding walked_all
returns c =
    let rs = c.args.roles.now in
    let l : length rs ≤ c.loop-role.role-index = omega (arith, c.loop-role-test.false) in
    let e : drop c.loop-role.role-index rs ≡ [] = drop_of_length-le rs l in
    (rw e at c.loop-role.invariant.3, c.loop-role.invariant.1, omega (arith, c.loop-role.invariant.0, c.loop-role.invariant.2))
