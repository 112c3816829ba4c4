-- A form that stands in its rooms, and what is lent of it. Assumes nothing.
use mathlib.Core.Path.{◌≡◌, ap, ◌∙◌}
use Rattle.rules.specs.Form.{Form, size}
use Rattle.form.specs.declared.Meaning.{Meaning}
use Rattle.form.specs.Rooms.{meaning_of, meant}
use Rattle.form.proofs.Lent.{meant_of}

module _ (φ : Form) (m : Meaning) (e : m ≡ meaning_of φ) where
  pub size_is : m.size ≡ size φ
  unfolding meaning_of
  size_is = ap (λ (x : Meaning). x.size) e

  pub lent_is : (lent : Form) → lent ≡ meant m → lent ≡ φ
  lent_is lent f = f ∙ ap meant e ∙ meant_of φ
