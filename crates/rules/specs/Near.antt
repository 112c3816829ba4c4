-- RULES 4.5: the value that an edited field says, and how far that is from the value that was edited. Assumes nothing.
use Rattle.std.specs.Prelude.{◌≡◌, ℕ, ◌*◌, ◌^◌, ◌≤◌, ◌<◌, ℤ, pos, nat_abs, ◌-ℤ◌, ◌*ℤ◌}
use Rattle.rules.specs.declared.Rounding.{Rounding}
use Rattle.rules.specs.declared.Rounding.TheVariants.{HalfAway}
use Rattle.rules.specs.Form.{Form}
use Rattle.rules.specs.Edit.{aligned, is_minus, signed}

-- the N at the picture's scale that stands in the field of M at the scale q
unfoldable pub aligned_value : Rounding → Form → ℤ → ℕ → ℤ
aligned_value w φ m q = signed (is_minus w φ m q) (aligned w φ m q)

-- how far N at the scale f is from M at the scale q, both brought to the scale f + q, at which one in N's last place is 10^q
unfoldable pub apart : ℤ → ℕ → ℤ → ℕ → ℕ
apart n f m q = nat_abs (n *ℤ pos (10 ^ q) -ℤ m *ℤ pos (10 ^ f))

-- less than one in the last place, in rounding half of one at the most
pub record Near (w : Rounding) (n : ℤ) (f : ℕ) (m : ℤ) (q : ℕ) : Type 0 where
  pub less : apart n f m q < 10 ^ q
  pub half : w ≡ HalfAway → 2 * apart n f m q ≤ 10 ^ q
