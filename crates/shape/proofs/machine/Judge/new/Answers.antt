-- Each table is the list that its rule computes to. Assumes nothing.
use mathlib.Core.Path.{refl}
use Rattle.rules.specs.Search.{up_to}
use Rattle.rules.specs.Roles.{is_digit, is_first_drifting, is_nine, is_punched, is_sign, is_static, is_suppressible}
use Rattle.rules.specs.Good.{plain_number}
use Rattle.shape.specs.Machine.{entry, machine, phase_of, seen_at, seen_next, weights}
use Rattle.shape.proofs.machine.Judge.new.Goals as goal

pub returns-clause-next : goal.returns-clause-next
unfolding machine up_to entry seen_at phase_of seen_next plain_number is_first_drifting is_digit is_nine is_punched is_suppressible is_static
returns-clause-next c = refl

pub returns-clause-weight : goal.returns-clause-weight
unfolding weights up_to is_first_drifting is_digit is_nine is_punched is_suppressible is_sign
returns-clause-weight c = refl
