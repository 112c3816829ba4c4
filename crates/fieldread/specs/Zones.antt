-- Beyond RULES: what reading in one pass has found before position k, which each step takes one position further, and what the last step
-- makes of it. proofs/Passing.antt proves that this decides whether the field is that of its value. Assumes nothing.
use Rattle.std.specs.Prelude.{◌≡◌, Bool, true, false, cond, not, ◌&&◌, ◌||◌, List, ℕ, zero, suc, ◌+◌, ◌*◌, ◌<◌, ◌≤◌, eqb, get_or, take}
use Rattle.rules.specs.Words.{same}
use Rattle.rules.specs.Search.{up_to}
use Rattle.rules.specs.Digits.{value_of}
use Rattle.rules.specs.Text.{is_decimal}
use Rattle.rules.specs.Roles.{drifts, is_b, is_bare, is_digit}
use Rattle.rules.specs.Form.{Form, role_at, size}
use Rattle.rules.specs.Edit.{cell_at, drifts_to, in_stretch, mark, opening, printed, start, suppressed}
use Rattle.rules.specs.Candidate.{digit_in, shown, shown_in, worth_of}
use Rattle.fieldread.specs.declared.zones.Said.{Said}

-- p holds of every place below k
unfoldable pub so_far : (ℕ → Bool) → ℕ → Bool
so_far p zero = true
so_far p (suc k) = so_far p k && p k

-- a position more that prints, asked for each sign whether its character is what the role prints of the digit in it; a mark more; and a bare digit
-- more, whose character is a digit
unfoldable pub print_step : Said → ℕ → ℕ → Said
print_step s r c = record {
  value = cond (is_digit r) (s.value * 10 + digit_in c) s.value;
  plus = s.plus && eqb c (printed r false (digit_in c));
  minus = s.minus && eqb c (printed r true (digit_in c));
}

unfoldable pub mark_step : Said → ℕ → ℕ → Said
mark_step s r c = record { value = s.value; plus = s.plus && eqb c (mark r false); minus = s.minus && eqb c (mark r true) }

unfoldable pub digit_step : Said → ℕ → Said
digit_step s c = record { value = s.value * 10 + digit_in c; plus = s.plus; minus = s.minus }

module _ (φ : Form) (f : List ℕ) where
  -- where printing starts, by the digits that the whole field shows; which positions are of the stretch; which has the drifting character
  abbrev pub start_in : ℕ
  start_in = start φ (shown φ f)

  abbrev pub within : ℕ → Bool
  within k = in_stretch φ (shown φ f) k

  abbrev pub has_drift : ℕ → Bool
  has_drift k = drifts φ.kind && eqb k (drifts_to φ (shown φ f))

  -- the value of the digits before position k
  abbrev pub value_to : ℕ → ℕ
  value_to k = value_of (shown_in (take k φ.roles) f)

  -- what is asked of a position that prints: whatever the sign, that a bare digit shows one; and by the sign, that any other shows its own
  unfoldable pub fine_at : ℕ → Bool
  fine_at k = within k || not (is_bare (role_at φ k)) || is_decimal (get_or f k 0)

  unfoldable pub marked_at : Bool → ℕ → Bool
  marked_at negative k = within k || is_bare (role_at φ k) || eqb (get_or f k 0) (printed (role_at φ k) negative (digit_in (get_or f k 0)))

  -- each bare digit that prints is one
  abbrev pub is_fine : Bool
  is_fine = so_far fine_at (size φ)

  unfoldable pub said_at : ℕ → Said
  said_at k = record { value = value_to k; plus = so_far (marked_at false) k; minus = so_far (marked_at true) k }

  -- what all positions say: no value and neither sign, unless each bare digit that prints is one
  unfoldable pub said_in : Said
  said_in = record { value = cond is_fine (worth_of φ f) 0; plus = is_fine && so_far (marked_at false) (size φ); minus = is_fine && so_far (marked_at true) (size φ) }

  -- printing doesn't start before position k, nor has the opening been passed; it is here unless printing starts
  pub record Led (k : ℕ) : Type 0 where
    pub short : k ≤ start_in
    pub early : k ≤ opening φ
    pub opened : k < start_in → opening φ ≤ k

  -- position k shows what a hidden one does
  abbrev pub ShowsHidden : ℕ → Type 0
  ShowsHidden k = get_or f k 0 ≡ suppressed φ.kind (role_at φ k)

  -- printing doesn't start before position k, and from the opening on each position before it shows what a hidden one does
  pub record HiddenTo (k : ℕ) : Type 0 where
    pub short : k ≤ start_in
    pub opened : k < start_in → opening φ ≤ k
    pub hides : (j : ℕ) → opening φ ≤ j → j < k → ShowsHidden j

  -- this one doesn't, unless printing starts
  abbrev pub Unhidden : ℕ → Type 0
  Unhidden k = k < start_in → ShowsHidden k → ⊥

  -- printing doesn't start before position k, and between position `at` and it stand Bs alone, each with its blank
  pub record BsBetween (at k : ℕ) : Type 0 where
    pub short : k ≤ start_in
    pub behind : at < k
    pub blanks : (j : ℕ) → at < j → j < k → (is_b (role_at φ j) ≡ true) × ShowsHidden j

  -- no B with its blank is here, unless printing starts
  abbrev pub NoB : ℕ → Type 0
  NoB k = k < start_in → is_b (role_at φ k) ≡ true → ShowsHidden k → ⊥

  -- printing starts at `to`: the stretch, which begins at `from` if anywhere, shows what hidden positions do and the drifting character, which is `last`
  pub record Stopped (from to last : ℕ) : Type 0 where
    pub starts : start_in ≡ to
    pub hides : (k : ℕ) → within k ≡ true → has_drift k ≡ false → ShowsHidden k
    pub ended : drifts φ.kind ≡ true → from < to → get_or f (drifts_to φ (shown φ f)) 0 ≡ last

  -- the value said, and whether the field is all cells of what it shows, with plus and with minus
  unfoldable pub sides_of : Said
  sides_of = record {
    value = cond is_fine (worth_of φ f) 0;
    plus = same (up_to (size φ) (λ k. cell_at φ (shown φ f) false k)) f;
    minus = same (up_to (size φ) (λ k. cell_at φ (shown φ f) true k)) f;
  }
