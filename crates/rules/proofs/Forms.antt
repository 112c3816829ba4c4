-- A form is that of an accepted text exactly when it is good: a good form written back as a text is accepted and means that form again, and
-- the form of an accepted text is good. Assumes nothing.
use Prim.Native.Nat.{ℕ, ◌+◌, ◌≤◌}
use mathlib.Core.Path.{◌≡◌, refl, sym, ap, ◌∙◌}
use mathlib.Core.Bool.{true, false, cond, true≢false}
use mathlib.Core.List.{List, map}
use mathlib.Core.Option.{Option, none, some}
use native.Mathlib.Omega.{arith}
use borrow.Author.Tests.{eqb-true, eqb-false, leb-true, leb-false, not-true, le-leb, eq-eqb, ne_eqb}
use lib.Dec.{eqb, leb, ltb}
use lib.ListN.{length, length-map}
use Rattle.rules.specs.Words.{any, count, one, place, times}
use Rattle.rules.specs.Numbers.{first_of}
use Rattle.rules.specs.Text.{expand, is_some, most_symbols, most_text, or_none, symbols_of, text_fits, the_v}
use Rattle.rules.specs.Roles.{drifts_sign, is_digit, is_sign, is_suppressible, last_kind}
use Rattle.rules.specs.Form.{Form, form_of, kind_of, meaning, numbers, roles_from, suppresses}
use Rattle.rules.specs.Shape.{digit_count, digits_fit, drifting, drifts_before_v, form_shape, most_digits, nines_last, one_drifts, one_sign, one_v, shape, statics_placed, suppressed_places, suppression_apart, verdict}
use Rattle.rules.specs.Good.{bears, fits_room, good, in_order, marks_last, one_dollar, plain_number, suppressing, well_made}
use Rattle.rules.proofs.Expand.{expanded, own_expansion, spelled}
use Rattle.rules.proofs.Firsts.{first_zero, unless_zero}
use Rattle.rules.proofs.Kinship.{any_times, borne_first, borne_met, length_roles, marks_numbers, marks_roles, no_kind, no_static, only_back, only_numbers, only_of, ordered, plain_numbers, roles_back, times_count, times_roles, up_to_le}
use Rattle.rules.proofs.Lists.{all_below_lem, all_below, count_le}
use Rattle.rules.proofs.Logic.{both, by_test}
use Rattle.rules.proofs.Spelling.{fitted, length_with, one_vee, spell_with, vee_back}
use Rattle.rules.proofs.WriteBack.{letter_of, number_of, write_back}

-- what a good form has, part by part
pub record Good (φ : Form) : Type 0 where
  pub kind : φ.kind ≤ last_kind
  pub order : in_order (leb φ.kind 2) φ.roles ≡ true
  pub borne : bears φ.kind φ.roles ≡ true
  pub dollar : times 6 φ.roles + one (eqb φ.kind 6) ≤ 1
  pub sign : count is_sign φ.roles + one (drifts_sign φ.kind) ≤ 1
  pub marks : marks_last φ.vee φ.roles ≡ true
  pub inside : φ.vee ≤ length φ.roles
  pub size : length φ.roles + one (ltb φ.vee (length φ.roles)) ≤ 64
  pub shape : form_shape φ ≡ true
  pub digits : digits_fit φ ≡ true

-- the rules of shape that a form passes
pub record Shaped (φ : Form) : Type 0 where
  pub nines : nines_last φ.roles ≡ true
  pub behind : suppressed_places φ ≡ true
  pub sign : count is_sign φ.roles + one (drifts_sign φ.kind) ≤ 1
  pub statics : statics_placed false φ.roles ≡ true
  pub vee : drifts_before_v φ ≡ true

pub shape_parts : (φ : Form) → form_shape φ ≡ true → Shaped φ
unfolding form_shape one_sign
shape_parts φ h =
    let a = both (nines_last φ.roles) _ h in
    let b = both (suppressed_places φ) _ a.1 in
    let c = both (one_sign φ) _ b.1 in
    let d = both (statics_placed false φ.roles) _ c.1 in
    record { nines = a.0; behind = b.0; sign = leb-true _ 1 c.0; statics = d.0; vee = d.1 }

pub good_parts : (φ : Form) → good φ ≡ true → Good φ
unfolding good well_made fits_room one_dollar
good_parts φ h =
    let a = both (well_made φ) _ h in
    let b = both (form_shape φ) (digits_fit φ) a.1 in
    let c = both (leb φ.kind last_kind) _ a.0 in
    let d = both (in_order (leb φ.kind 2) φ.roles) _ c.1 in
    let e = both (bears φ.kind φ.roles) _ d.1 in
    let f = both (one_dollar φ) _ e.1 in
    let g = both (marks_last φ.vee φ.roles) _ f.1 in
    let i = both (leb φ.vee (length φ.roles)) _ g.1 in
    record {
      kind = leb-true _ last_kind c.0;
      order = d.0;
      borne = e.0;
      dollar = leb-true _ 1 f.0;
      sign = (shape_parts φ b.0).sign;
      marks = g.0;
      inside = leb-true φ.vee _ i.0;
      size = leb-true _ 64 i.1;
      shape = b.0;
      digits = b.1;
    }

plain_kind : (k : ℕ) → k ≤ last_kind → plain_number k ≡ true
unfolding plain_number
plain_kind k l = all_below_lem 7 plain_number (unfold all_below in refl) k (omega arith)

sign_between : (j : ℕ) → 3 ≤ j → j ≤ 5 → is_sign j ≡ true
unfolding is_sign
sign_between j p q = rw (le-leb 3 j p, le-leb j 5 q)

-- RULES 2.6 and 2.7 together: at most one kind suppresses
module _ (ns : List ℕ) where
  suppressing_is : suppressing last_kind ns ≡ drifting ns + (one (suppresses 2 ns) + one (suppresses 1 ns))
  unfolding suppressing drifting
  suppressing_is = omega arith

  pub one_suppresses : drifting ns ≤ 1 → one (suppresses 1 ns) + (one (suppresses 2 ns) + one (leb 1 (drifting ns))) ≤ 1 → suppressing last_kind ns ≤ 1
  one_suppresses d a = by_test (leb 1 (drifting ns))
      (λ e. omega (arith, suppressing_is, rw e at a))
      (λ e. omega (arith, suppressing_is, rw e at a, leb-false 1 (drifting ns) e))

  pub suppresses_one : suppressing last_kind ns ≤ 1 → (drifting ns ≤ 1) × (one (suppresses 1 ns) + (one (suppresses 2 ns) + one (leb 1 (drifting ns))) ≤ 1)
  suppresses_one h = by_test (leb 1 (drifting ns))
      (λ e. (omega (arith, suppressing_is), rw e (omega (arith, suppressing_is, leb-true 1 (drifting ns) e))))
      (λ e. (omega (arith, suppressing_is), rw e (omega (arith, suppressing_is))))

-- From a good form to an accepted text.
module _ (φ : Form) (g : Good φ) where
  once : (j : ℕ) → 3 ≤ j → j ≤ last_kind → times j φ.roles ≤ 1
  once j p q = by_test (leb j 5)
      (λ e. omega (arith, times_count j is_sign (sign_between j p (leb-true j 5 e)) φ.roles, g.sign))
      (λ e. let s : j ≡ 6 = omega (arith, leb-false j 5 e) in rw s (omega (arith, g.dollar)))

  never : 3 ≤ φ.kind → times φ.kind φ.roles ≡ 0
  never p = by_test (leb φ.kind 5)
      (λ e. let d : drifts_sign φ.kind ≡ true = unfold drifts_sign in rw (le-leb 3 φ.kind p, e) in
      omega (arith, times_count φ.kind is_sign (sign_between φ.kind p (leb-true φ.kind 5 e)) φ.roles, rw d at g.sign))
      (λ e. let s : φ.kind ≡ 6 = omega (arith, leb-false φ.kind 5 e, g.kind) in
      rw s (omega (arith, rw s at g.dollar)))

  abbrev ns : List ℕ
  ns = map (number_of φ.kind) φ.roles

  only : (suppressing last_kind ns ≤ 1) × (kind_of ns ≡ φ.kind)
  only = only_back last_kind φ.kind ns g.kind (only_numbers last_kind φ.kind φ.roles g.kind g.order g.borne once)

  same_roles : roles_from φ.kind (leb φ.kind 2) ns ≡ φ.roles
  unfolding any bears
  same_roles = by_test (eqb φ.kind 0)
      (λ e. let z = eqb-true φ.kind 0 e in
      rw (z, no_kind) (plain_numbers φ.roles (rw z at g.order) (not-true _ (rw z at g.borne))))
      (λ e. let z = eqb-false φ.kind 0 e in
      roles_back φ.kind (leb φ.kind 2) φ.roles (omega arith) never g.order)

  spells : (numbers (write_back φ) ≡ ns) × (spelled (write_back φ) ≡ true)
  unfolding write_back
  spells = spell_with φ.vee ns (marks_numbers φ.vee φ.kind (plain_kind φ.kind g.kind) φ.roles ∙ g.marks)

  pub form_back : form_of (write_back φ) ≡ φ
  unfolding form_of
  form_back =
      let v : place the_v (write_back φ) ≡ φ.vee = unfold write_back in vee_back φ.vee ns (rw length-map g.inside) in
      rw (spells.0, only.1, same_roles, v)

  pub text_back : expand (write_back φ) ≡ some (write_back φ)
  text_back = own_expansion (write_back φ) spells.1

  size_back : length (write_back φ) ≡ length φ.roles + one (ltb φ.vee (length φ.roles))
  unfolding write_back
  size_back = rw (length_with φ.vee (map letter_of ns), length-map, length-map)

  pub size_le : length (write_back φ) ≤ 64
  size_le = omega (arith, size_back, g.size)

  pub spelled_back : spelled (write_back φ) ≡ true
  spelled_back = spells.1

  one_vee_back : times the_v (write_back φ) ≤ 1
  unfolding write_back
  one_vee_back = one_vee φ.vee ns

  shape_back : shape (write_back φ) ≡ true
  unfolding shape one_v one_drifts suppression_apart
  shape_back =
      let o = suppresses_one ns only.0 in
      rw (le-leb _ 1 one_vee_back, spells.0, le-leb _ 1 o.0, le-leb _ 1 o.1, form_back) g.shape

  some_digit : 1 ≤ length φ.roles
  unfolding digits_fit
  some_digit = omega (arith, count_le is_digit φ.roles, leb-true 1 (count is_digit φ.roles) (both (leb 1 (count is_digit φ.roles)) (leb (count is_digit φ.roles) most_digits) g.digits).0)

  pub meaning_back : meaning (write_back φ) ≡ φ
  unfolding meaning
  meaning_back = rw text_back form_back

  pub accepted_back : verdict (write_back φ) ≡ 0
  unfolding verdict first_of text_fits
  accepted_back =
      let n = size_back in
      let a : leb 1 (length (write_back φ)) ≡ true = le-leb 1 (length (write_back φ)) (omega (arith, some_digit)) in
      let b : leb (length (write_back φ)) most_text ≡ true = le-leb (length (write_back φ)) most_text (omega (arith, g.size)) in
      let c : leb (length (write_back φ)) 64 ≡ true = le-leb (length (write_back φ)) 64 (omega (arith, g.size)) in
      rw (a, b, text_back, c, shape_back, form_back, g.digits)

-- From an accepted text to a good form.
module _ (s : List ℕ) (p : spelled s ≡ true) (o : suppressing last_kind (numbers s) ≤ 1) (l : length s ≤ 64) where
  abbrev ms : List ℕ
  ms = numbers s

  abbrev k : ℕ
  k = kind_of ms

  kind_le : k ≤ last_kind
  kind_le = up_to_le last_kind ms

  idle : (j : ℕ) → 1 ≤ j → j ≤ 6 → (j ≡ k → ⊥) → leb (cond (leb j 2) 1 2) (times j ms) ≡ false
  idle j a b n = unfold suppresses in (only_of last_kind ms o j a b ∙ ne_eqb j k n)

  foreigners : (j : ℕ) → 1 ≤ j → j ≤ 2 → (j ≡ k → ⊥) → times j ms ≡ 0
  foreigners j a b n = omega (arith, leb-false 1 (times j ms) (rw (le-leb j 2 b) at (idle j a (omega arith) n)))

  busy : 1 ≤ k → leb (cond (leb k 2) 1 2) (times k ms) ≡ true
  busy a = unfold suppresses in (only_of last_kind ms o k a kind_le ∙ eq-eqb k k refl)

  borne_out : bears k (roles_from k (leb k 2) ms) ≡ true
  unfolding bears
  borne_out = by_test (eqb k 0)
      (λ e. let z = eqb-true k 0 e in
      rw (e, z, no_kind) (by_test (any is_suppressible ms)
      (λ t. absurd (omega (arith, any_times ms t, foreigners 1 (omega arith) (omega arith) (λ y. omega arith)))) (λ t. rw t)))
      (λ e. let z = eqb-false k 0 e in
      rw e (by_test (leb k 2)
      (λ q. rw q (borne_met k ms (omega arith) (leb-true 1 _ (rw q at (busy (omega arith))))))
      (λ q. rw q (borne_first k ms (omega arith) (leb-true 2 _ (rw q at (busy (omega arith))))))))

  one_dollar_lem : times 6 (roles_from k (leb k 2) ms) + one (eqb k 6) ≤ 1
  one_dollar_lem = by_test (eqb k 6)
      (λ e. let z = eqb-true k 6 e in
      let w : times 6 (roles_from k (leb k 2) ms) ≡ 0 = ap (λ (j : ℕ). times j (roles_from k (leb k 2) ms)) (sym z) ∙ no_static k (omega arith) (leb k 2) ms in
      rw e (omega arith))
      (λ e. let z = eqb-false k 6 e in rw e (omega (arith, times_roles k 6 (omega arith) (leb k 2) ms, leb-false 2 (times 6 ms) (idle 6 (omega arith) (omega arith) (λ y. z (sym y))))))

  -- before any rule on its form is judged, so that one judge serves pictures and plans
  pub well_made_lem : well_made (form_of s) ≡ true
  unfolding form_of well_made fits_room one_dollar
  well_made_lem =
      let i = fitted s p in
      let n = length_roles k (leb k 2) ms in
      let m : marks_last (place the_v s) (roles_from k (leb k 2) ms) ≡ true = marks_roles (place the_v s) k (plain_kind k kind_le) (leb k 2) ms ∙ i.marks in
      rw (
        le-leb k last_kind kind_le,
        ordered k (leb k 2) ms foreigners,
        borne_out,
        le-leb _ 1 one_dollar_lem,
        m,
        n,
        le-leb _ _ i.inside,
        le-leb (length ms + one (ltb (place the_v s) (length ms))) 64 (omega (arith, i.size)),
      )

pub spelled_some : (o : Option (List ℕ)) → is_some o ≡ true → o ≡ some (or_none o)
spelled_some none h = absurd (true≢false (sym h))
spelled_some (some s) h = refl

-- what an accepted text has, part by part
pub record Accepted (t : List ℕ) : Type 0 where
  pub length_fits : text_fits t ≡ true
  pub spells : expand t ≡ some (symbols_of t)
  pub room : length (symbols_of t) ≤ most_symbols
  pub shaped : shape (symbols_of t) ≡ true
  pub digits : digits_fit (form_of (symbols_of t)) ≡ true

pub accepted_parts : (t : List ℕ) → verdict t ≡ 0 → Accepted t
unfolding verdict
accepted_parts t v =
    let a = first_zero _ _ v in
    let b = first_zero _ _ a.1 in
    let c = first_zero _ _ b.1 in
    let d = first_zero _ _ c.1 in
    let e = first_zero _ _ d.1 in
    record {
      length_fits = unless_zero _ 0 a.0;
      spells = spelled_some (expand t) (unless_zero _ 1 b.0);
      room = leb-true _ most_symbols (unless_zero _ 2 c.0);
      shaped = unless_zero _ 3 d.0;
      digits = unless_zero _ 4 e.0;
    }

-- The two ways.
pub record Means (t : List ℕ) (φ : Form) : Type 0 where
  pub accepted : verdict t ≡ 0
  pub form : meaning t ≡ φ

pub good_means : (φ : Form) → good φ ≡ true → Means (write_back φ) φ
good_means φ h = let g = good_parts φ h in record { accepted = accepted_back φ g; form = meaning_back φ g }

-- a good form has no more digits than a field may have
pub few_digits : (φ : Form) → good φ ≡ true → digit_count φ ≤ most_digits
unfolding digits_fit
few_digits φ h = leb-true (digit_count φ) most_digits (both (leb 1 (digit_count φ)) _ (good_parts φ h).digits).1

pub accepted_good : (t : List ℕ) → verdict t ≡ 0 → good (meaning t) ≡ true
unfolding good meaning shape one_drifts suppression_apart
accepted_good t v =
    let a = accepted_parts t v in
    let s = symbols_of t in
    let x = both (one_v s) _ a.shaped in
    let y = both (one_drifts s) _ x.1 in
    let z = both (suppression_apart s) _ y.1 in
    let o = one_suppresses (numbers s) (leb-true _ 1 y.0) (leb-true _ 1 z.0) in
    rw (well_made_lem s (expanded _ t s a.spells) o a.room, z.1, a.digits)
