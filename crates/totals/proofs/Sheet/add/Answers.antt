-- `totals::Sheet::add` meets its contract: each way through it is a law of Ways. Assumes nothing.
use mathlib.Core.Path.{◌≡◌, sym, ◌∙◌}
use Prim.Native.Nat.{◌<◌, ◌≤◌}
use native.Mathlib.Omega.{arith}
use borrow.Author.Rules.{rules}
use lib.ListN.{length, take, length-take}
use Rattle.rules.specs.Numbers.{bad_field}
use Rattle.rules.specs.Layout.{most_pictures}
use Rattle.totals.specs.Totals.{place_numbers}
use Rattle.totals.proofs.Columns.{no_place, place_is, place_within, sums_fit}
use Rattle.totals.proofs.Ways.{added_way, full_way, row_taken, size_way}
use Rattle.totals.proofs.Sheet.add.Goals as goal
use Rattle.totals.proofs.Sheet.add.Goals.{In-Some}

pub returns-then-self-ge-MOST_RECORDS : goal.returns-then-self-ge-MOST_RECORDS
returns-then-self-ge-MOST_RECORDS c = rw (c.unchanged.ensures, c.into.ensures) (full_way _ _ c.if-self-ge-MOST_RECORDS.true)

-- the place lies within the row, and so within 32
within : (c : In-Some) → c.in-Some.place < 32
within c =
    let ms = take c.min.result c.args.row.now in
    let few : length ms ≤ 32 = simp length-take (omega (arith, c.min.ensures)) in
    let sums : length c.args.self.sums ≡ 32 = search rules in
    let small = place_within c.args.self.sums ms (omega arith) c.in-Some.place (sym c.first_over.ensures ∙ c.in-Some.is) in
    omega arith

pub overflow_cast-place : goal.overflow_cast-place
overflow_cast-place c = omega (arith, within c)

pub overflow_add-place : goal.overflow_add-place
overflow_add-place c = omega (arith, within c)

pub returns-in-Some : goal.returns-in-Some
returns-in-Some c =
    let ms = take most_pictures c.args.row.now in
    let taken : (take c.min.result c.args.row.now ≡ ms) = rw c.min.ensures (row_taken c.args.row.now) in
    let e = place_is (bad_field (place_numbers c.args.self.sums ms)) c.in-Some.place (rw taken at (sym c.first_over.ensures ∙ c.in-Some.is)) in
    rw c.unchanged-in-Some.ensures (rw e at (size_way c.args.self ms c.if-self-ge-MOST_RECORDS.false (λ z. omega arith)))

pub with_row-self-requires : goal.with_row-self-requires
with_row-self-requires c =
    let ms = take c.min.result c.args.row.now in
    let few : length ms ≤ 32 = simp length-take (omega (arith, c.min.ensures)) in
    let sums : length c.args.self.sums ≡ 32 = search rules in
    record {
      few = few;
      room = c.if-self-ge-MOST_RECORDS.false;
      sums = sums_fit c.args.self.sums ms (omega arith) (no_place _ (sym c.first_over.ensures ∙ c.in_default.is));
    }

pub returns : goal.returns
returns c =
    let ms = take most_pictures c.args.row.now in
    let taken : (take c.min.result c.args.row.now ≡ ms) = rw c.min.ensures (row_taken c.args.row.now) in
    rw (c.with_row-self.ensures, taken) (added_way c.args.self ms c.if-self-ge-MOST_RECORDS.false (no_place _ (rw taken at (sym c.first_over.ensures) ∙ c.in_default.is)))
