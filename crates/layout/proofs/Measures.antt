-- The pass that judges and measures: what it keeps, by the pictures that are left. Assumes nothing.
use Prim.Native.Nat.{ℕ, zero, suc, ◌+◌, ◌*◌, ◌≤◌}
use mathlib.Core.Path.{◌≡◌, refl, sym, ◌∙◌}
use mathlib.Core.List.{List, [], ◌∷◌, map}
use native.Mathlib.Omega.{arith}
use lib.ListN.{length}
use Rattle.rules.specs.declared.Refused.{Refused}
use Rattle.rules.specs.Numbers.{first_of, bad_field, later}
use Rattle.rules.specs.Refusals.{refusal_number}
use Rattle.rules.specs.Text.{most_symbols}
use Rattle.rules.specs.Form.{meaning}
use Rattle.rules.specs.Shape.{verdict}
use Rattle.rules.specs.Layout.{most_pictures, record_length}
use Rattle.rules.proofs.Firsts.{first_here, first_next, later_some}
use Rattle.rules.proofs.Forms.{accepted_good, good_parts}
use Rattle.form.specs.declared.Meaning.{Meaning}
use Rattle.form.specs.Rooms.{meaning_of}
use Rattle.picture.proofs.Lent.{size_is}
use Rattle.rules.proofs.Refusing.{refusal_some}
use Rattle.layout.specs.declared.measuring.Extent.{Extent}
use Rattle.layout.specs.Passes.{ExtentIs, FirstBad}

-- the pictures passed are accepted, and of this extent
pub record Measuring (ts : List (List ℕ)) (extent : Extent) (left : List (List ℕ)) : Type 0 where
  pub count_is : extent.count + length left ≡ length ts
  pub width_is : extent.width + record_length (map meaning left) ≡ record_length (map meaning ts)
  pub narrow : extent.width ≤ most_symbols * extent.count
  pub number_is : first_of (map verdict left) ≡ first_of (map verdict ts)
  pub field_is : 1 ≤ bad_field (map verdict left) → bad_field (map verdict ts) ≡ extent.count + bad_field (map verdict left)

bad_here : (n : ℕ) (ns : List ℕ) → (n ≡ 0 → ⊥) → bad_field (n ∷ ns) ≡ 1
unfolding bad_field
bad_here zero ns h = absurd (h refl)
bad_here (suc n) ns h = refl

pub measuring_first : (ts left : List (List ℕ)) → left ≡ ts → Measuring ts (record { count = 0; width = 0 }) left
measuring_first ts left e = rw e (record { count_is = omega arith; width_is = omega arith; narrow = omega arith; number_is = refl; field_is = λ _. omega arith })

module _ (ts : List (List ℕ)) (extent : Extent) (left : List (List ℕ)) (h : Measuring ts extent left) where
  module _ (t : List ℕ) (rest : List (List ℕ)) (q : left ≡ t ∷ rest) where
    pub few_next : length ts ≤ most_pictures → extent.count + 1 ≤ most_pictures
    few_next f = omega (arith, rw q at h.count_is)

    -- the first bad picture
    pub measuring_stops : (r : Refused) → refusal_number r.refusal ≡ verdict t → r.field ≡ extent.count + 1 → FirstBad ts r
    measuring_stops r e g =
        let n : verdict t ≡ 0 → ⊥ = λ z. refusal_some r.refusal (e ∙ z) in
        let b = bad_here (verdict t) (map verdict rest) n in
        let f = rw q at h.field_is in
        record {
          number = e ∙ sym (first_here (verdict t) (map verdict rest) n) ∙ (rw q at h.number_is);
          field = omega (arith, g, b, f (omega (arith, b)));
        }

    module _ (z : 0 ≡ verdict t) (form : Meaning) (e : form ≡ meaning_of (meaning t)) where
      pub size_small : form.size ≤ most_symbols
      size_small = omega (arith, size_is _ form e, (good_parts _ (accepted_good t (sym z))).size)

      pub measuring_more : Measuring ts (record { count = extent.count + 1; width = extent.width + form.size }) rest
      unfolding record_length bad_field
      measuring_more =
          let b : bad_field (map verdict (t ∷ rest)) ≡ later (bad_field (map verdict rest)) = rw (← z) refl in
          record {
            count_is = omega (arith, rw q at h.count_is);
            width_is = omega (arith, rw q at h.width_is, size_is _ form e);
            narrow = omega (arith, h.narrow, size_small);
            number_is = sym (first_next (verdict t) (map verdict rest) (sym z)) ∙ (rw q at h.number_is);
            field_is = λ s. let f = rw q at h.field_is in omega (arith, b, later_some _ s, f (omega (arith, b, later_some _ s)));
          }

  -- no picture is left
  pub measuring_done : left ≡ [] → ExtentIs ts extent
  unfolding first_of record_length
  measuring_done q = record {
    accepted = sym (rw q at h.number_is);
    count = omega (arith, rw q at h.count_is);
    width = omega (arith, rw q at h.width_is);
  }
