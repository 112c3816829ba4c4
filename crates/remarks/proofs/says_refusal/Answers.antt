-- `remarks::says_refusal` meets its contract: behind the first comma stands what tells. Assumes nothing.
use mathlib.Core.Path.{◌∙◌}
use Prim.Native.Nat.{◌+◌}
use Rattle.std.proofs.lemmas.List.{take_rest}
use Rattle.remarks.proofs.Commas.{behind, no_comma}
use Rattle.remarks.proofs.says_refusal.Goals as goal

pub returns-in-Some : goal.returns-in-Some
returns-in-Some c =
    let e = rw c.in-Some.is at c.first_comma.ensures in
    c.not_zero.ensures ∙ rw (take_rest c.args.line.now (c.in-Some.comma + 1)) (behind _ _ e)

pub returns-in-None : goal.returns-in-None
returns-in-None c = no_comma _ (rw c.in-None.is at c.first_comma.ensures)
