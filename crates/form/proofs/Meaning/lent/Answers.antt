-- `form::Meaning::lent` meets its contract. Assumes nothing.
use borrow.Author.Rules.{rules}
use Rattle.form.specs.Rooms.{meant}
use Rattle.form.proofs.Lent.{guarded}
use Rattle.form.proofs.Meaning.lent.Goals as goal

pub returns : goal.returns
unfolding meant
returns c =
    let r = guarded c.args.self.now.size c.args.self.now.roles (search rules) in
    rw (c.min.ensures, r)
