-- The pass that puts the headers and the roles of a layout's pictures: those that are left, put from here on,
-- give the whole. Assumes nothing.
use Prim.Native.Nat.{ℕ, ◌+◌, ◌≤◌}
use mathlib.Core.Path.{◌≡◌, refl, sym, ◌∙◌}
use mathlib.Core.List.{List, [], ◌∷◌, map}
use native.Mathlib.Omega.{arith}
use lib.ListN.{length, length-append}
use lib.Seq.{sets, length-sets}
use Rattle.std.specs.Prelude.{Result, Ok, Err}
use Rattle.std.specs.Result.{IsOk}
use Rattle.rules.specs.declared.Refusal.{Refusal}
use Rattle.rules.specs.Refusals.{result_number}
use Rattle.rules.specs.Form.{Form, size, meaning}
use Rattle.rules.specs.Shape.{verdict}
use Rattle.rules.specs.Layout.{headers, positions}
use Rattle.rules.proofs.Firsts.{first_zero}
use Rattle.rules.proofs.Forms.{accepted_good, good_parts}
use Rattle.rules.proofs.Refusing.{refusal_some}
use Rattle.layout.specs.Passes.{FormFits, Fits, fields_in}
use Rattle.layout.proofs.Bytes.{form_more}

-- a result without a refusal
pub no_refusal : {A : Type 0} (r : Result A Refusal) (n : ℕ) → result_number r ≡ n → n ≡ 0 → IsOk r
no_refusal (Ok x) n e z = refl
no_refusal (Err r) n e z = absurd (refusal_some r (e ∙ z))

-- what the pass keeps: the forms left, put from here on into this plan, give all of them put into the plan
-- that was lent
pub record Putting (ts : List (List ℕ)) (before : List ℕ) (hs ps : ℕ) (plan : List ℕ) (header at : ℕ) (left : List (List ℕ)) : Type 0 where
  pub same : length plan ≡ length before
  pub fits : Fits left (length plan) header at
  pub rest : fields_in plan header at (map meaning left) ≡ fields_in before hs ps (map meaning ts)

pub putting_first : (ts left : List (List ℕ)) (plan : List ℕ) (hs ps : ℕ) → left ≡ ts → Fits ts (length plan) hs ps → Putting ts plan hs ps plan hs ps left
putting_first ts left plan hs ps e f = rw e (record { same = refl; fits = f; rest = refl })

module _ (ts : List (List ℕ)) (before : List ℕ) (hs ps : ℕ) (plan : List ℕ) (header at : ℕ) (left : List (List ℕ)) (h : Putting ts before hs ps plan header at left) where
  module _ (t : List ℕ) (others : List (List ℕ)) (q : left ≡ t ∷ others) where
    pub next_accepted : verdict t ≡ 0
    next_accepted = (first_zero _ _ (rw q at h.fits.accepted)).0

    apart_next : header + 3 + length (headers (map meaning others)) ≤ at
    unfolding headers
    apart_next = omega (arith, rw q at h.fits.apart)

    roles_next : at + size (meaning t) + length (positions (map meaning others)) ≤ length plan
    unfolding positions
    roles_next = omega (arith, simp length-append at (rw q at h.fits.roles))

    module _ (φ : Form) (e : φ ≡ meaning t) where
      pub next_fits : FormFits φ (length plan) header at
      next_fits =
          let g = good_parts (meaning t) (accepted_good t next_accepted) in
          rw e (record { small = omega (arith, g.size); vee = omega (arith, g.inside); apart = omega (arith, apart_next); roles = omega (arith, roles_next) })

      pub putting_more : (after : List ℕ) → after ≡ sets (sets plan header (size φ ∷ φ.vee ∷ φ.kind ∷ [])) at φ.roles → (n : ℕ) → n ≡ size (meaning t)
          → Putting ts before hs ps after (header + 3) (at + n) others
      putting_more after x n s =
          let l : length after ≡ length plan = rw x (simp length-sets) in
          record {
            same = l ∙ h.same;
            fits = rw l (record { accepted = (first_zero _ _ (rw q at h.fits.accepted)).1; apart = omega (arith, apart_next); roles = omega (arith, s, roles_next) });
            rest = rw (x, e, s) (sym (form_more (meaning t) (map meaning others) plan header at apart_next)) ∙ (rw q at h.rest);
          }

  -- no picture is left
  pub putting_done : left ≡ [] → plan ≡ fields_in before hs ps (map meaning ts)
  unfolding headers positions
  putting_done q = rw q at h.rest
