-- The definition, by its tests. Assumes nothing.
use mathlib.Core.Path.{refl}
use native.Mathlib.Omega.{arith}
use Rattle.rules.specs.Roles.{drifts_sign}
use Rattle.rules.specs.Good.{plain_number}
use Rattle.shape.specs.Machine.{phase_of, seen_none, started}
use Rattle.shape.proofs.machine.start.Goals as goal

pub returns-in-0-to-2 : goal.returns-in-0-to-2
unfolding started phase_of seen_none plain_number drifts_sign
returns-in-0-to-2 c = grind arith

pub returns-in-3-to-5 : goal.returns-in-3-to-5
unfolding started phase_of seen_none plain_number drifts_sign
returns-in-3-to-5 c = grind arith

pub returns-in-6 : goal.returns-in-6
unfolding started phase_of seen_none plain_number drifts_sign
returns-in-6 c = rw c.in-6.is (refl, omega arith, omega arith)

pub returns-in_default : goal.returns-in_default
unfolding started phase_of seen_none plain_number drifts_sign
returns-in_default c = grind arith
