-- Reading field after field: what one turn finds and what it leaves. What the fields from here on say, put
-- behind what is there, is the whole. Assumes nothing.
use Prim.Native.Nat.{ℕ, ◌+◌, ◌≤◌}
use mathlib.Core.Path.{◌≡◌, refl, sym, ◌∙◌}
use mathlib.Core.Bool.{true}
use mathlib.Core.List.{List, [], ◌∷◌}
use native.Mathlib.Omega.{arith}
use lib.IntN.{ℤ}
use lib.ListN.{length, take, drop, set, length-take, length-drop}
use Rattle.std.specs.Prelude.{None, Some, Ok}
use Rattle.std.specs.declared.option.Option.{Option as CodeOption}
use Rattle.rules.specs.Form.{Form, size}
use Rattle.rules.specs.Layout.{most_pictures, record_length}
use Rattle.rules.specs.Good.{good}
use Rattle.rules.specs.PlanBytes.{all_good, forms_in, is_plan}
use Rattle.rules.specs.Candidate.{option_of, read_all, read_of}
use Rattle.rules.proofs.Forms.{few_digits}
use Rattle.rules.proofs.Logic.{both}
use Rattle.rules.proofs.Outcomes.{none_in, value_in}
use Rattle.rules.proofs.PlanWalk.{count_forms_in, plan_parts}
use Rattle.fieldread.specs.Results.{read_in}
use Rattle.fieldread.proofs.Cases.{read_in_lem}
use Rattle.planread.specs.Runs.{Ran, ran_from, says_nothing}

-- Before field i: the forms that are left, the characters of theirs that are left, the values so far, and
-- what the whole run gives.
pub record Onward (left : List Form) (rest : List ℕ) (values : List ℤ) (i : ℕ) (whole : Ran) : Type 0 where
  pub fine : all_good left ≡ true
  pub few : i + length left ≤ most_pictures
  pub fills : length rest ≡ record_length left
  pub gives : ran_from i values (read_all left rest) ≡ whole

pub starts : (b rec : List ℕ) (first : List ℤ) → is_plan b ≡ true → length rec ≡ record_length (forms_in b) → Onward (forms_in b) rec first 0 (ran_from 0 first (read_all (forms_in b) rec))
starts b rec first h e =
    let p = plan_parts b h in
    record { fine = p.good; few = omega (arith, p.few, count_forms_in b); fills = e; gives = refl }

module _ (values : List ℤ) (rest : List ℕ) (i : ℕ) (whole : Ran) where
  pub ends : Onward [] rest values i whole → record { outcome = Ok tt; values = values } ≡ whole
  unfolding ran_from read_all
  ends o = o.gives

  module _ (φ : Form) (left : List Form) (o : Onward (φ ∷ left) rest values i whole) where
    pub part_fits : size φ ≤ length rest
    unfolding record_length
    part_fits = omega (arith, o.fills)

    fine_both : (good φ ≡ true) × (all_good left ≡ true)
    unfolding all_good
    fine_both = both (good φ) (all_good left) o.fine

    said_is : (r : CodeOption ℤ) → r ≡ read_in φ (take (size φ) rest) → r ≡ option_of (read_of φ (take (size φ) rest))
    said_is r e = e ∙ read_in_lem φ (few_digits φ fine_both.0) _ (simp length-take (omega (arith, part_fits)))

    -- CONVERSION here
    pub stops : (r : CodeOption ℤ) → r ≡ read_in φ (take (size φ) rest) → r ≡ None → record { outcome = says_nothing (i + 1); values = values } ≡ whole
    unfolding ran_from read_all
    stops r e q = rw (none_in _ (sym (said_is r e) ∙ q)) at o.gives

    pub goes_on : (r : CodeOption ℤ) → r ≡ read_in φ (take (size φ) rest) → (m : ℤ) → r ≡ Some m → Onward left (drop (size φ) rest) (set values i m) (i + 1) whole
    unfolding ran_from read_all record_length
    goes_on r e m q =
        record {
          fine = fine_both.1;
          few = omega (arith, o.few);
          fills = simp length-drop (omega (arith, o.fills));
          gives = rw (value_in _ m (sym (said_is r e) ∙ q)) at o.gives;
        }
