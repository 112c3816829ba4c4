-- `layout::cutting::Pictures::next` meets its contract: it takes the first picture off. Assumes nothing.
use Rattle.layout.proofs.Ends.{fewer_left, no_picture, picture_ends}
use Rattle.layout.proofs.cutting.PicturesIterator.next.Goals as goal

pub returns-in_err-end-clause-steps : goal.returns-in_err-end-clause-steps
returns-in_err-end-clause-steps c = rw c.from_residual.ensures (no_picture _ c.in_err-end.ensures, no_picture _ c.in_err-end.ensures)

pub returns-clause-steps : goal.returns-clause-steps
returns-clause-steps c = picture_ends _ _ c.in_ok-end.ensures

pub returns-clause-goes : goal.returns-clause-goes
returns-clause-goes c = record { on = λ _. (tt, tt, fewer_left _ _ c.in_ok-end.ensures); keeps = tt; rests = λ _. tt }
