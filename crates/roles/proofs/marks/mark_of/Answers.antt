-- `mark_of`: each arm is a column of the table of marks, and past the table there is nothing. Assumes
-- nothing.
use mathlib.Core.Path.{refl}
use native.Mathlib.Omega.{arith}
use Rattle.rules.specs.Edit.{mark}
use Rattle.roles.proofs.Columns.{column, no_column, no_mark, one_mark}
use Rattle.roles.proofs.marks.mark_of.Goals as goal

pub returns-in-3 : goal.returns-in-3
unfolding mark
returns-in-3 c = let a = c.args in column a.role 3 a.negative _ c.in-3.is c.chosen.ensures

pub returns-in-4 : goal.returns-in-4
unfolding mark
returns-in-4 c = let a = c.args in column a.role 4 a.negative _ c.in-4.is c.chosen-in-4.ensures

pub returns-in-5 : goal.returns-in-5
unfolding mark
returns-in-5 c = let a = c.args in column a.role 5 a.negative _ c.in-5.is c.chosen-in-5.ensures

pub returns-in-6 : goal.returns-in-6
unfolding mark
returns-in-6 c = let a = c.args in one_mark a.role 6 a.negative _ c.in-6.is refl refl

pub returns-in-7 : goal.returns-in-7
unfolding mark
returns-in-7 c = let a = c.args in one_mark a.role 7 a.negative _ c.in-7.is refl refl

pub returns-in-8 : goal.returns-in-8
unfolding mark
returns-in-8 c = let a = c.args in one_mark a.role 8 a.negative _ c.in-8.is refl refl

pub returns-in-9 : goal.returns-in-9
unfolding mark
returns-in-9 c = let a = c.args in one_mark a.role 9 a.negative _ c.in-9.is refl refl

pub returns-in-10 : goal.returns-in-10
unfolding mark
returns-in-10 c = let a = c.args in one_mark a.role 10 a.negative _ c.in-10.is refl refl

pub returns-in-11 : goal.returns-in-11
unfolding mark
returns-in-11 c = let a = c.args in column a.role 11 a.negative _ c.in-11.is c.chosen-in-11.ensures

pub returns-in-12 : goal.returns-in-12
unfolding mark
returns-in-12 c = let a = c.args in column a.role 12 a.negative _ c.in-12.is c.chosen-in-12.ensures

pub returns-in-13 : goal.returns-in-13
unfolding mark
returns-in-13 c = let a = c.args in column a.role 13 a.negative _ c.in-13.is c.chosen-in-13.ensures

pub returns-in-14 : goal.returns-in-14
unfolding mark
returns-in-14 c = let a = c.args in column a.role 14 a.negative _ c.in-14.is c.chosen-in-14.ensures

pub returns-in-0 : goal.returns-in-0
returns-in-0 c = no_mark c.args.role _ (omega arith)

pub returns-in_default : goal.returns-in_default
returns-in_default c = no_column _ _ (omega arith)
