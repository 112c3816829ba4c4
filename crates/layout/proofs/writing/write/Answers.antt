-- `layout::writing::write` meets its contract: the two counts stand apart from the forms. Assumes nothing.
use mathlib.Core.Path.{refl, ◌∙◌}
use Prim.Native.Nat.{◌<◌}
use native.Mathlib.Omega.{arith}
use borrow.Author.Rules.{rules}
use lib.ListN.{length-set}
use Rattle.layout.proofs.Bytes.{whole_plan}
use Rattle.layout.proofs.Ways.{room_is, width_small, forms_fit}
use Rattle.layout.proofs.writing.write.Goals as goal

pub bounds-plan-0 : goal.bounds-plan-0
bounds-plan-0 c = omega (arith, room_is _ _ _ c.requires)

pub overflow_cast-extent : goal.overflow_cast-extent
overflow_cast-extent c = omega (arith, width_small _ _ _ c.requires)

pub put_forms-requires : goal.put_forms-requires
put_forms-requires c = forms_fit _ _ _ c.requires _ (search (rules, length-set))

pub returns : goal.returns
returns c =
    let w : c.args.extent.width < 65536 = omega (arith, width_small _ _ _ c.requires) in
    c.put_forms.ensures ∙ rw (c.put.ensures.memory, c.to_be_bytes.ensures) (whole_plan _ c.args.plan.now _ _ _ c.requires.count_is c.requires.width_is refl w (omega (arith, room_is _ _ _ c.requires)))
