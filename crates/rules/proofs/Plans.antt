-- Bytes are the plan of some accepted layout exactly when the forms read off them are good and give them again; and two accepted layouts with
-- one plan have the same forms, so that they edit and read every row and record alike. The layout for a plan is its forms written back, each
-- closes by `;`. Assumes nothing.
use Prim.Native.Nat.{ℕ, ◌+◌, ◌*◌, ◌/◌, ◌%◌, ◌≤◌}
use Prim.Native.Char.{code}
use mathlib.Core.Path.{◌≡◌, refl, sym, ap, ◌∙◌}
use mathlib.Core.Bool.{Bool, true, false, true≢false, not, ◌&&◌}
use mathlib.Core.List.{List, [], ◌∷◌, ◌++◌, append_assoc, append-nil, map}
use native.Mathlib.Omega.{arith}
use borrow.Author.Tests.{not-true, eqb-true, leb-true, le-leb}
use lib.Dec.{eqb, leb}
use lib.ListN.{length, drop, length-append, length-map}
use lib.Seq.{take-append_seam, drop-append_seam, drop_at}
use Rattle.rules.specs.Words.{has, same}
use Rattle.rules.specs.Numbers.{COUNT, first_of, unless}
use Rattle.rules.specs.Text.{is_mark, is_symbol, symbols}
use Rattle.rules.specs.Form.{Form, meaning}
use Rattle.rules.specs.Shape.{verdict}
use Rattle.rules.specs.Layout.{HasPlan, accepted, closes, count_fits, cut, forms, headers, most_layout, most_pictures, pictures, plan_of, positions, record_length, verdicts}
use Rattle.rules.specs.Good.{good}
use Rattle.rules.specs.PlanBytes.{all_good, forms_from, forms_in, is_plan}
use Rattle.rules.proofs.Expand.{spelled}
use Rattle.rules.proofs.Firsts.{first_zero, unless_zero}
use Rattle.rules.proofs.Forms.{accepted_good, good_means, good_parts, size_le, spelled_back}
use Rattle.rules.proofs.Lists.{all, members, same_eq, same_refl}
use Rattle.rules.proofs.Logic.{both, by_or, by_test, eqb_swap, neither}
use Rattle.rules.proofs.WriteBack.{layout_of, write_back}

-- Reading the forms off: what follows the plan is not looked at.
forms_from_lem : (φs : List Form) (x y : List ℕ) → forms_from (length φs) (headers φs ++ x) (positions φs ++ y) ≡ φs
unfolding forms_from headers positions
forms_from_lem [] x y = refl
forms_from_lem (φ ∷ φs) x y =
    rw (append_assoc φ.roles (positions φs) y, take-append_seam φ.roles (positions φs ++ y), drop-append_seam φ.roles (positions φs ++ y), forms_from_lem φs x y)

pub length_headers : (φs : List Form) → length (headers φs) ≡ 3 * length φs
unfolding headers
length_headers [] = refl
length_headers (φ ∷ φs) = omega (arith, length_headers φs)

pub length_positions : (φs : List Form) → length (positions φs) ≡ record_length φs
unfolding positions record_length
length_positions [] = refl
length_positions (φ ∷ φs) = simp length-append (omega (arith, length_positions φs))

pub plan_length : (φs : List Form) → length (plan_of φs) ≡ 3 * length φs + 3 + record_length φs
unfolding plan_of
plan_length φs = simp length-append (omega (arith, length_headers φs, length_positions φs))

-- what follows a plan is not looked at
pub forms_ahead : (φs : List Form) (y : List ℕ) → forms_in (plan_of φs ++ y) ≡ φs
unfolding forms_in plan_of
forms_ahead φs y =
    let n = length_headers φs in
    let hi = record_length φs / 256 in
    let lo = record_length φs % 256 in
    let h = headers φs in
    let p : (h ++ (hi ∷ lo ∷ positions φs)) ++ y ≡ h ++ (hi ∷ lo ∷ (positions φs ++ y)) = append_assoc h (hi ∷ lo ∷ positions φs) y in
    let q : (h ++ (hi ∷ lo ∷ positions φs)) ++ y ≡ (h ++ (hi ∷ lo ∷ [])) ++ (positions φs ++ y) = p ∙ sym (append_assoc h (hi ∷ lo ∷ []) (positions φs ++ y)) in
    let e : drop (3 * length φs + 3) (length φs ∷ ((h ++ (hi ∷ lo ∷ positions φs)) ++ y)) ≡ positions φs ++ y =
    rw q (drop_at (length φs ∷ h ++ (hi ∷ lo ∷ [])) (positions φs ++ y) (3 * length φs + 3) (simp length-append (omega arith))) in
    rw (e, p) (forms_from_lem φs (hi ∷ lo ∷ (positions φs ++ y)) y)

pub forms_back : (φs : List Form) → forms_in (plan_of φs) ≡ φs
forms_back φs = rw append-nil at (forms_ahead φs [])

-- a record of good forms has at most 64 characters a field
pub record_le : (φs : List Form) → all_good φs ≡ true → record_length φs ≤ 64 * length φs
unfolding record_length all_good
record_le [] h = omega arith
record_le (φ ∷ φs) h =
    let w = both (good φ) (all_good φs) h in
    let g = good_parts φ w.0 in
    omega (arith, g.size, record_le φs w.1)

-- A layout made of good forms.
plain_byte : (b : ℕ) → is_symbol b ≡ true → eqb (code ";") b ≡ false
plain_byte b h = not-true _ (members (λ x. not (eqb (code ";") x)) symbols (unfold all in refl) b h)

-- a picture that is spelled has no `;` inside
no_end : (s : List ℕ) → spelled s ≡ true → has (code ";") s ≡ false
unfolding spelled has same
no_end [] h = refl
no_end (b ∷ s) h =
    by_or (is_mark (b ∷ s)) (is_symbol b && spelled s) h
    (λ e. by_or _ _ e
    (λ q. let w = both _ _ q in rw (eqb-true b (code "C") w.0, same_eq s (code "R" ∷ []) w.1))
    (λ q. let w = both _ _ q in rw (eqb-true b (code "D") w.0, same_eq s (code "B" ∷ []) w.1)))
    (λ e. let w = both (is_symbol b) (spelled s) e in rw (plain_byte b w.0, no_end s w.1))

cut_at : (sofar s rest : List ℕ) → has (code ";") s ≡ false → cut sofar (s ++ (code ";" ∷ rest)) ≡ (sofar ++ s) ∷ cut [] rest
unfolding cut has
cut_at sofar [] rest h = rw append-nil
cut_at sofar (b ∷ s) rest h =
    let w = neither (eqb (code ";") b) (has (code ";") s) h in
    rw (eqb_swap b (code ";"), w.0) (cut_at (sofar ++ (b ∷ [])) s rest w.1 ∙ ap (◌∷ cut [] rest) (append_assoc sofar (b ∷ []) s))

closes_at : (now : Bool) (s rest : List ℕ) → closes now (s ++ (code ";" ∷ rest)) ≡ closes true rest
unfolding closes
closes_at now [] rest = refl
closes_at now (b ∷ s) rest = closes_at (eqb b (code ";")) s rest

closes_layout : (φs : List Form) → closes true (layout_of φs) ≡ true
unfolding layout_of
closes_layout [] = unfold closes in refl
closes_layout (φ ∷ φs) = closes_at true (write_back φ) (layout_of φs) ∙ closes_layout φs

length_layout : (φs : List Form) → all_good φs ≡ true → length (layout_of φs) ≤ 65 * length φs
unfolding layout_of all_good
length_layout [] h = omega arith
length_layout (φ ∷ φs) h =
    let w = both (good φ) (all_good φs) h in
    simp length-append (omega (arith, size_le φ (good_parts φ w.0), length_layout φs w.1))

-- the pictures of a layout made of good forms are accepted and mean these forms
cut_layout : (φs : List Form) → all_good φs ≡ true → (first_of (verdicts (layout_of φs)) ≡ 0) × (forms (layout_of φs) ≡ φs)
unfolding layout_of all_good forms first_of
cut_layout [] h = unfold cut in (refl, refl)
cut_layout (φ ∷ φs) h =
    let w = both (good φ) (all_good φs) h in
    let i = cut_layout φs w.1 in
    let m = good_means φ w.0 in
    rw (cut_at [] (write_back φ) (layout_of φs) (no_end (write_back φ) (spelled_back φ (good_parts φ w.0))), m.accepted, m.form, i.1) (i.0, refl)

count_forms : (l : List ℕ) → length (forms l) ≡ length (pictures l)
unfolding forms
count_forms l = length-map (pictures l) meaning

layout_made : (φs : List Form) → 1 ≤ length φs → length φs ≤ most_pictures → all_good φs ≡ true → (accepted (layout_of φs) ≡ true) × (forms (layout_of φs) ≡ φs)
unfolding count_fits accepted
layout_made [] l m h = absurd (omega arith)
layout_made (φ ∷ φs) l m h =
    let i = cut_layout (φ ∷ φs) h in
    let e : closes false (layout_of (φ ∷ φs)) ≡ true = unfold layout_of in (closes_at false (write_back φ) (layout_of φs) ∙ closes_layout φs) in
    let n : length (pictures (layout_of (φ ∷ φs))) ≡ length (φ ∷ φs) = sym (count_forms (layout_of (φ ∷ φs))) ∙ ap length i.1 in
    (rw (e, le-leb (length (layout_of (φ ∷ φs))) most_layout (omega (arith, length_layout (φ ∷ φs) h)), le-leb (length (pictures (layout_of (φ ∷ φs)))) most_pictures (rw n m), i.0) (unfold first_of in refl), i.1)

-- Bytes are a plan exactly when an accepted layout has them.
pub plan_has : (b : List ℕ) → is_plan b ≡ true → (l : List ℕ) × HasPlan l b × (forms l ≡ forms_in b)
unfolding is_plan
plan_has b h =
    let w = both (leb 1 (length (forms_in b))) _ h in
    let x = both (leb (length (forms_in b)) most_pictures) _ w.1 in
    let y = both (all_good (forms_in b)) _ x.1 in
    let m = layout_made (forms_in b) (leb-true 1 _ w.0) (leb-true _ most_pictures x.0) y.0 in
    (layout_of (forms_in b), record { layout = m.0; plan = ap plan_of m.1 ∙ sym (same_eq b (plan_of (forms_in b)) y.1) }, m.1)

-- what an accepted layout has, part by part
pub record Layout (l : List ℕ) : Type 0 where
  pub counted : count_fits l ≡ true
  pub fine : first_of (verdicts l) ≡ 0

pub layout_parts : (l : List ℕ) → accepted l ≡ true → Layout l
unfolding accepted
layout_parts l h =
    let a = first_zero _ _ (eqb-true (first_of (unless (count_fits l) COUNT ∷ first_of (verdicts l) ∷ [])) 0 h) in
    record { counted = unless_zero _ 10 a.0; fine = (first_zero _ _ a.1).0 }

-- an accepted layout has at least one picture
closes_some : (sofar l : List ℕ) → closes false l ≡ true → 1 ≤ length (cut sofar l)
unfolding closes cut
closes_some sofar [] h = absurd (true≢false (sym h))
closes_some sofar (b ∷ s) h =
    by_test (eqb b (code ";")) (λ e. rw e (omega arith)) (λ e. rw e (closes_some (sofar ++ (b ∷ [])) s (rw e at h)))

-- accepted pictures mean good forms
pub all_good_lem : (ts : List (List ℕ)) → first_of (map verdict ts) ≡ 0 → all_good (map meaning ts) ≡ true
unfolding all_good
all_good_lem [] h = refl
all_good_lem (t ∷ ts) h = let w = first_zero _ _ h in rw (accepted_good t w.0, all_good_lem ts w.1)

pub forms_good : (l : List ℕ) → accepted l ≡ true → all_good (forms l) ≡ true
unfolding forms
forms_good l h = all_good_lem (pictures l) (layout_parts l h).fine

pub forms_count : (l : List ℕ) → accepted l ≡ true → (1 ≤ length (forms l)) × (length (forms l) ≤ most_pictures)
unfolding count_fits
forms_count l h =
    let w = both (closes false l) _ (layout_parts l h).counted in
    let x = both (leb (length l) most_layout) _ w.1 in
    (omega (arith, count_forms l, closes_some [] l w.0), omega (arith, count_forms l, leb-true (length (pictures l)) most_pictures x.1))

pub has_plan : (l b : List ℕ) → HasPlan l b → is_plan b ≡ true
unfolding is_plan
has_plan l b p =
    let n = forms_count l p.layout in
    rw (← p.plan) (rw (forms_back (forms l), le-leb 1 (length (forms l)) n.0, le-leb (length (forms l)) most_pictures n.1, forms_good l p.layout, same_refl (plan_of (forms l))))

-- bytes that fail the test are no accepted layout's plan
pub no_layout : (b : List ℕ) → is_plan b ≡ false → (l : List ℕ) → HasPlan l b → ⊥
no_layout b h l p = true≢false (sym (has_plan l b p) ∙ h)

-- the forms read off a plan are those of each layout that has it
pub forms_of_plan : (l b : List ℕ) → HasPlan l b → forms_in b ≡ forms l
forms_of_plan l b p = rw (← p.plan) (forms_back (forms l))

-- two accepted layouts with one plan have the same forms
pub layout_one : (b l m : List ℕ) → HasPlan l b → HasPlan m b → forms l ≡ forms m
layout_one b l m p q = sym (forms_of_plan l b p) ∙ forms_of_plan m b q
