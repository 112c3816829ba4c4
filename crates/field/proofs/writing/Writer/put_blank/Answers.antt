-- `put_blank`: the characters before position k are written. Assumes nothing.
use mathlib.Core.Path.{◌≡◌, refl, sym, ◌∙◌}
use native.Mathlib.Omega.{arith}
use lib.ListN.{length, get_or}
use Rattle.rules.specs.Search.{up_to}
use Rattle.rules.specs.Edit.{suppressed}
use Rattle.rules.proofs.Search.{length_up_to}
use Rattle.field.proofs.Bytes.{sets_all, sets_next}
use Rattle.field.proofs.writing.Writer.put_blank.Goals as goal

pub loop-k-init : goal.loop-k-init
unfolding up_to
loop-k-init c = refl

pub loop-k-preserved : goal.loop-k-preserved
loop-k-preserved c = let φ = c.args.self.form in sets_next (λ j. suppressed φ.kind (get_or φ.roles.now j 0)) _ c.loop-k.k _ _ c.loop-k.invariant c.suppressed_of.ensures

pub returns : goal.returns
returns c =
    let n = length c.args.self.form.roles.now in
    let e : c.loop-k.k ≡ n = omega arith in
    (rw e at c.loop-k.invariant) ∙ sets_all c.args.field.now (up_to n _) (rw (length_up_to _ n) (sym c.requires))
