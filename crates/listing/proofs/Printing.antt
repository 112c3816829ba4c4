-- What a program prints, from what the calls of this library leave: with the rooms long enough the line
-- stands first in the lent memory, and it is that line of the input's listing. Assumes nothing.
use mathlib.Core.Path.{◌≡◌, refl, sym, ◌∙◌, ap}
use mathlib.Core.Bool.{Bool, true, false}
use mathlib.Core.List.{List, [], ◌∷◌}
use Prim.Native.Nat.{ℕ, zero, suc, ◌≤◌, ◌<◌}
use native.Mathlib.Omega.{arith}
use lib.Dec.{ltb}
use lib.ListN.{length, get_or, take, drop}
use lib.Seq.{take_at, length-take-le}
use borrow.Author.Tests.{ltb-true, ltb-false, le-leb, lt-leb}
use Rattle.std.specs.Prelude.{Some, None}
use Rattle.rules.specs.Layout.{accepted, forms, cut, HasPlan}
use Rattle.rules.specs.Answers.{compile_answer, compile_memory}
use Rattle.rules.specs.Lister.{most_input, over_limit}
use Rattle.rules.proofs.Plans.{forms_count}
use Rattle.listing.specs.declared.Listed.{Listed}
use Rattle.listing.specs.Lines.{most_line, most_plan, line_length, line_memory, length_in, layout_text, listed_of, RecordLineIs}
use Rattle.listing.specs.Program.{lines_in, layout_in, ListingLine, line_count}
use Rattle.listing.proofs.Layouts.{layout_text_lem, plan_none, plan_first}
use Rattle.listing.proofs.Records.{record_line_of}

pub line_first : (text out after : List ℕ) (r : ℕ) → most_line ≤ length out → r ≡ line_length text out → after ≡ line_memory text out → take r after ≡ text
unfolding line_length line_memory
line_first text out after r h p q = rw (p, q, le-leb most_line (length out) h) (take_at text (drop (length text) out) (length text) refl)

pub some_line : (ls : List (List ℕ)) → accepted (get_or ls 0 []) ≡ true → 1 ≤ length ls
unfolding forms cut
some_line [] h = absurd (omega (arith, (forms_count [] h).0))
some_line (l ∷ ls) h = omega arith

-- Of the first n bytes read, which are over the limit where the test says so, line 0, and there is no other.
module _ (n : ℕ) (input : List ℕ) (over : Bool) (l : n ≤ length input) (t : over ≡ ltb most_input n) where
  pub within : over ≡ false → length (take n input) ≤ most_input
  within f = omega (arith, length-take-le n input l, ltb-false most_input n (sym t ∙ f))

  pub beyond : over ≡ true → most_input < length (take n input)
  beyond f = omega (arith, length-take-le n input l, ltb-true most_input n (sym t ∙ f))

  pub over_printed : (out after : List ℕ) (r : ℕ) → over ≡ true → most_line ≤ length out → r ≡ line_length over_limit out → after ≡ line_memory over_limit out
      → ListingLine (take n input) 0 (take r after) × (1 ≡ line_count (take n input))
  unfolding line_count
  over_printed out after r f room p q =
      rw (lt-leb (length (take n input)) most_input (beyond f)) ((refl, line_first over_limit out after r room p q), refl)

-- Line 0, the layout's. What compiling has left says whether there are others, and is then the layout's plan.
module _ (s l plan out : List ℕ) (r : Listed) (h : length s ≤ most_input) (wide : most_plan ≤ length plan) (e : l ≡ layout_in s)
    (a : r ≡ listed_of l plan out) where
  compiled_length : r.plan ≡ length_in (compile_answer l plan)
  unfolding listed_of
  compiled_length = ap (λ (x : Listed). x.plan) a

  pub layout_printed : (after : List ℕ) → most_line ≤ length out → after ≡ line_memory (layout_text l plan) out → ListingLine s 0 (take r.line after)
  unfolding listed_of
  layout_printed after room q =
      let t = line_first (layout_text l plan) out after r.line room (ap (λ (x : Listed). x.line) a) q in
      rw (le-leb (length s) most_input h) (t ∙ layout_text_lem l plan wide ∙ rw e)

  pub not_accepted : r.plan ≡ None → accepted l ≡ false
  not_accepted z = plan_none l plan r.plan wide compiled_length z

  pub layout_refused : r.plan ≡ None → 1 ≡ line_count s
  unfolding line_count
  layout_refused z = rw (le-leb (length s) most_input h, ← e, not_accepted z)

  pub layout_taken : (n : ℕ) (after : List ℕ) → r.plan ≡ Some n → after ≡ compile_memory l plan → HasPlan (layout_in s) (take n after)
  layout_taken n after z q = rw (← e) (plan_first l plan r.plan wide compiled_length n after z q)

-- Line k, that of record k by the plan of the input's layout. There is one for each of the input's lines.
module _ (s plan : List ℕ) (h : length s ≤ most_input) (p : HasPlan (layout_in s) plan) where
  pub record_printed : (k : ℕ) (rec out after : List ℕ) (r : ℕ) → 1 ≤ k → k < length (lines_in s) → get_or (lines_in s) k [] ≡ rec
      → most_line ≤ length out → RecordLineIs k plan rec out r after → ListingLine s k (take r after)
  record_printed zero rec out after r one there e room i = absurd (omega arith)
  record_printed (suc k) rec out after r one there e room i =
      let w = record_line_of (layout_in s) plan rec (suc k) i.text p i.says in
      let t = line_first i.text out after r room i.answers i.leaves in
      rw (le-leb (length s) most_input h) (record { layout = p.layout; there = there; says = w.0; reads = rw e w.1; gives = rw e (t ∙ w.2) })

  pub layout_there : 1 ≤ length (lines_in s)
  layout_there = some_line (lines_in s) p.layout

  pub count_taken : length (lines_in s) ≡ line_count s
  unfolding line_count
  count_taken = rw (le-leb (length s) most_input h, p.layout)
