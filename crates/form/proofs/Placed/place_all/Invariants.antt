-- `form::Placed::place_all` meets its contract: what is left of the symbols finishes the form. Assumes
-- nothing.
use mathlib.Core.Path.{◌≡◌}
use Prim.Native.Nat.{◌+◌, ◌≤◌}
use lib.ListN.{drop}
use Rattle.rules.specs.Form.{numbers}
use Rattle.form.specs.Rooms.{finished}
use Rattle.form.proofs.Placed.place_all.Given as goal

abbrev pub invariant-loop-i : goal.invariant-loop-i
invariant-loop-i l = record {
  few : l.self.form.size ≤ l.initial.self.form.size + l.i;
  rest : finished l.self (numbers (drop l.i l.symbols)) ≡ finished l.initial.self (numbers l.symbols);
}
