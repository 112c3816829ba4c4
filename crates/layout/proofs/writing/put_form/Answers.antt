-- `layout::writing::put_form` meets its contract: three stores and a copy. Assumes nothing.
use Rattle.rules.specs.Form.{form_in}
use Rattle.layout.proofs.Bytes.{form_put}
use Rattle.layout.proofs.writing.put_form.Goals as goal

pub returns : goal.returns
returns c = form_put (form_in c.args.form) c.args.plan.now _ _ c.requires _ c.put.ensures.memory
