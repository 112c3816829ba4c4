-- The ways through `put`: the field doesn't fit, everything is suppressed, or not. Assumes nothing.
use mathlib.Core.Path.{◌≡◌, sym}
use mathlib.Core.Bool.{Bool, true, false, not, and-false}
use mathlib.Core.List.{List}
use Prim.Native.Nat.{ℕ, ◌+◌, ◌<◌, ◌≤◌}
use borrow.Author.Tests.{ne_eqb}
use lib.ListN.{length}
use lib.Seq.{sets}
use Rattle.rules.specs.Words.{any}
use Rattle.rules.specs.Search.{up_to}
use Rattle.rules.specs.Roles.{is_nine}
use Rattle.rules.specs.Form.{Form, role_at, size}
use Rattle.rules.specs.Edit.{all_suppressible, is_blank, suppressed}
use Rattle.copying.specs.Copy.{copied}
use Rattle.copying.proofs.Copies.{copied_in, copied_out}
use Rattle.field.specs.Results.{field_by, shown_at}
use Rattle.field.proofs.Field.{length_by}

module _ (table : List ℕ) (φ : Form) (negative : Bool) (t from : ℕ) (lent : List ℕ) where
  pub put_out : length lent < from + size φ → lent ≡ copied (field_by table φ negative t) from lent
  put_out h = sym (copied_out (field_by table φ negative t) lent from (rw (length_by table φ negative t) h))

  module _ (h : from + size φ ≤ length lent) where
    put_in : copied (field_by table φ negative t) from lent ≡ sets lent from (field_by table φ negative t)
    put_in = copied_in (field_by table φ negative t) lent from (rw (length_by table φ negative t) h)

    pub put_blanked : t ≡ 0 → (nine : Bool) → nine ≡ any is_nine φ.roles → not nine ≡ true → (part : List ℕ)
        → part ≡ up_to (size φ) (λ k. suppressed φ.kind (role_at φ k)) → sets lent from part ≡ copied (field_by table φ negative t) from lent
    unfolding field_by is_blank all_suppressible
    put_blanked z nine n g part e = rw (e, put_in, z, ← n, g)

    pub put_showing : is_blank φ t ≡ false → (part : List ℕ) → part ≡ up_to (size φ) (shown_at table φ negative t) → sets lent from part ≡ copied (field_by table φ negative t) from lent
    unfolding field_by
    put_showing b part e = rw (e, put_in, b)

module _ (φ : Form) (t : ℕ) where
  pub nine_shows : (nine : Bool) → nine ≡ any is_nine φ.roles → not nine ≡ false → is_blank φ t ≡ false
  unfolding is_blank all_suppressible
  nine_shows nine n g = rw (← n, g)

  pub some_shows : (t ≡ 0 → ⊥) → is_blank φ t ≡ false
  unfolding is_blank
  some_shows z = rw (ne_eqb t 0 z) (and-false (all_suppressible φ))
