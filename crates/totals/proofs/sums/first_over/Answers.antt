-- `totals::sums::first_over` meets its contract: what the chain found, place by place, is the first bad
-- place. Assumes nothing.
use Prim.Native.Nat.{ℕ, ◌<◌, ◌≤◌}
use mathlib.Core.Path.{◌≡◌}
use mathlib.Core.Bool.{true, false}
use borrow.Author.Rules.{rules}
use lib.ListN.{length}
use native.Mathlib.Omega.{arith}
use Rattle.std.specs.Prelude.{Some, None}
use Rattle.std.proofs.iter.runs.Made.{chains}
use Rattle.totals.proofs.Columns.{first_is, fits_at}
use Rattle.totals.proofs.sums.first_over.Goals as goal

pub returns : goal.returns
returns c =
    let sums = c.args.sums in
    let row = c.args.row.now in
    let whole : length sums ≡ 32 = search rules in
    let few : length row ≤ length sums = omega (arith, c.requires, whole) in
    let all : (k : ℕ) → c.position.result ≡ None → k < length row → fits_at sums row k ≡ true = λ k e h. search (rules, chains) in
    let within : (i : ℕ) → c.position.result ≡ Some i → i < length row = λ i e. search (rules, chains) in
    let here : (i : ℕ) → c.position.result ≡ Some i → fits_at sums row i ≡ false = λ i e. search (rules, chains) in
    let past : (i k : ℕ) → c.position.result ≡ Some i → k < i → fits_at sums row k ≡ true = λ i k e h. search (rules, chains) in
    first_is sums row few c.position.result all (λ i e. (within i e, here i e)) past
