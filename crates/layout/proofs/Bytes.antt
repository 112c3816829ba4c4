-- A plan's bytes put into lent memory. `sets l i vs` is l with vs from i on; stores at places apart may be
-- made in either order, so that headers and roles grow side by side. Assumes nothing.
use Prim.Native.Nat.{ℕ, suc, ◌+◌, ◌*◌, ◌/◌, ◌%◌, ◌<◌, ◌≤◌}
use mathlib.Core.Path.{◌≡◌, refl, sym, ap, ◌∙◌}
use mathlib.Core.List.{List, [], ◌∷◌, ◌++◌}
use native.Mathlib.Numerals.{add-one, add-two}
use native.Mathlib.Omega.{arith}
use lib.ListN.{length, set, length-set}
use lib.Seq.{sets, set_comm}
use Rattle.std.specs.Int.{w16, to_be_bytes}
use Rattle.rules.specs.Form.{Form, size}
use Rattle.rules.specs.Layout.{headers, positions, record_length, plan_of}
use Rattle.rules.proofs.Lists.{sets_append}
use Rattle.rules.proofs.Plans.{length_headers}
use Rattle.copying.specs.Copy.{copied}
use Rattle.copying.proofs.Copies.{copied_in}
use Rattle.layout.specs.Passes.{FormFits, fields_in}

-- a store before the place where writing begins
set_below : (vs l : List ℕ) (i j a : ℕ) → j < i → sets (set l j a) i vs ≡ set (sets l i vs) j a
set_below [] l i j a h = refl
set_below (v ∷ vs) l i j a h =
    ap (λ (k : List ℕ). sets k (suc i) vs) (set_comm l j i a v (λ e. omega arith)) ∙ set_below vs (set l i v) (suc i) j a (omega arith)

pub swap : (hs rs l : List ℕ) (h p : ℕ) → h + length hs ≤ p → sets (sets l h hs) p rs ≡ sets (sets l p rs) h hs
swap [] rs l h p a = refl
swap (x ∷ hs) rs l h p a =
    swap hs rs (set l h x) (suc h) p (omega arith) ∙ ap (λ (k : List ℕ). sets k (suc h) hs) (set_below rs l p h x (omega arith))

-- the three stores of a form's header, and the copy of its roles
pub form_put : (φ : Form) (plan : List ℕ) (h at : ℕ) → FormFits φ (length plan) h at → (after : List ℕ)
    → after ≡ copied φ.roles at (set (set (set plan h (size φ)) (h + 1) φ.vee) (h + 2) φ.kind)
    → after ≡ sets (sets plan h (size φ ∷ φ.vee ∷ φ.kind ∷ [])) at φ.roles
form_put φ plan h at f after a =
    let x = set (set (set plan h (size φ)) (h + 1) φ.vee) (h + 2) φ.kind in
    let m : at + size φ ≤ length x = simp length-set (omega (arith, f.roles)) in
    rw (add-one h, add-two h) at (a ∙ copied_in φ.roles x at m)

-- one form more
pub form_more : (φ : Form) (φs : List Form) (plan : List ℕ) (h p : ℕ) → h + 3 + length (headers φs) ≤ p
    → fields_in plan h p (φ ∷ φs) ≡ fields_in (sets (sets plan h (size φ ∷ φ.vee ∷ φ.kind ∷ [])) p φ.roles) (h + 3) (p + size φ) φs
unfolding headers positions
form_more φ φs plan h p a =
    let e : suc (suc (suc h)) ≡ h + 3 = omega arith in
    let x = sets plan h (size φ ∷ φ.vee ∷ φ.kind ∷ []) in
    ap (λ (n : ℕ). sets (sets x n (headers φs)) p (φ.roles ++ positions φs)) e
    ∙ sets_append φ.roles (positions φs) (sets x (h + 3) (headers φs)) p
    ∙ ap (λ (k : List ℕ). sets k (p + size φ) (positions φs)) (swap (headers φs) φ.roles x (h + 3) p a)

-- a number of two bytes, the high one first
two_bytes : (n : ℕ) → n < 65536 → to_be_bytes w16 n ≡ (n / 256 ∷ n % 256 ∷ [])
two_bytes n h = let e : n / 256 % 256 ≡ n / 256 = omega arith in rw e refl

-- the two counts and the forms make the plan
pub whole_plan : (φs : List Form) (plan : List ℕ) (n w at : ℕ) → n ≡ length φs → w ≡ record_length φs → at ≡ 3 * n + 1 → w < 65536 → at + 2 ≤ length plan
    → fields_in (copied (to_be_bytes w16 w) at (set plan 0 n)) 1 (at + 2) φs ≡ sets plan 0 (plan_of φs)
unfolding plan_of
whole_plan φs plan n w at en ew ea s f =
    let hs = headers φs in
    let ps = positions φs in
    let x = set plan 0 n in
    let ws = w / 256 ∷ w % 256 ∷ [] in
    let l : 1 + length hs ≡ at = omega (arith, length_headers φs) in
    let r : at + length ws ≤ length x = simp length-set (omega arith) in
    rw (two_bytes w s, copied_in ws x at r) (sym (
    ap (λ (k : ℕ). sets (set plan 0 k) 1 (hs ++ (record_length φs / 256 ∷ record_length φs % 256 ∷ ps))) (sym en)
    ∙ ap (λ (k : ℕ). sets x 1 (hs ++ (k / 256 ∷ k % 256 ∷ ps))) (sym ew)
    ∙ sets_append hs (ws ++ ps) x 1
    ∙ ap (λ (k : ℕ). sets (sets x 1 hs) k (ws ++ ps)) l
    ∙ sets_append ws ps (sets x 1 hs) at
    ∙ ap (λ (k : List ℕ). sets k (at + 2) ps) (swap hs ws x 1 at (omega arith))
    ))
