-- `compared`: the rest prints, and the last character of the stretch that is no B's is the drifting one. Assumes nothing.
use mathlib.Core.Path.{◌≡◌, ◌∙◌}
use mathlib.Core.Bool.{true, false, ◌&&◌}
use lib.Dec.{ltb}
use Rattle.rules.specs.Roles.{drifts}
use Rattle.fieldread.proofs.Passing.{said_kept, sides_drift, sides_plain}
use Rattle.fieldread.proofs.asked.Asked.compared.Goals as goal

pub rest-said-requires : goal.rest-said-requires
rest-said-requires c =
    let g = c.requires.2 in
    (c.requires.0 ∙ said_kept _ _ _ c.requires.1 ∙ rw g.starts, g.starts)

pub returns-then-does_drift-led : goal.returns-then-does_drift-led
returns-then-does_drift-led c =
    let a = c.args in
    let e : (drifts a.self.now.form.kind && ltb a.led.at a.hidden.to) ≡ true = rw (← c.does_drift.ensures) c.if-does_drift-led.true in
    sides_drift _ _ a.self.now.long a.led.at a.hidden.to a.hidden.last c.requires.1 c.requires.2 _ c.rest-said.ensures _ e c.print_mark.ensures

pub returns : goal.returns
returns c =
    let a = c.args in
    let e : (drifts a.self.now.form.kind && ltb a.led.at a.hidden.to) ≡ false = rw (← c.does_drift.ensures) c.if-does_drift-led.false in
    sides_plain _ _ a.self.now.long a.led.at a.hidden.to a.hidden.last c.requires.1 c.requires.2 _ c.rest-said.ensures e
