-- A line's text is its head, on success the values, and the end, written one behind the other; it has at most
-- most_line characters, so where these are lent it stands whole before what was there. Assumes nothing.
use mathlib.Core.Path.{◌≡◌, refl, ◌∙◌}
use mathlib.Core.List.{List, [], ◌∷◌, ◌++◌, map, append_assoc}
use Prim.Native.Nat.{ℕ, ◌≤◌, ◌<◌}
use native.Mathlib.Omega.{arith}
use lib.IntN.{ℤ}
use lib.ListN.{length, length-append}
use borrow.Author.Tests.{le-leb, lt-leb}
use Rattle.std.specs.Prelude.{Ok, Err}
use Rattle.rules.specs.declared.Refusal.TheVariants.{Input}
use Rattle.rules.specs.declared.Refused.{Refused}
use Rattle.rules.specs.Refusals.{refusal_number, fields_answer}
use Rattle.rules.specs.Lister.{decimal, signed_decimal, line, answer_line, over_limit}
use Rattle.rules.proofs.Refusing.{refusal_eqb}
use Rattle.listing.specs.Put.{Puts, behind, head_of, end}
use Rattle.listing.specs.Lines.{most_line, line_length, line_memory, text_of}
use Rattle.listing.proofs.Numerals.{decimal_le}
use Rattle.listing.proofs.Writing.{put_join, put_length, put_first}
use Rattle.listing.proofs.Commas.{next_le, behind_cons, line_is}
use Rattle.listing.proofs.Values.{texts, values_le}

pub head_le : (k number field : ℕ) → length (head_of k number field) ≤ 62
unfolding head_of
head_le k number field =
    rw (behind_cons (decimal number) (decimal field ∷ []), length-append (decimal k), length-append (behind (decimal number ∷ [])))
    (omega (arith, decimal_le k, next_le number, next_le field))

-- The text, by its parts.
text_is : (k number field : ℕ) (ws : List (List ℕ))
    → line (decimal k ∷ decimal number ∷ decimal field ∷ ws) ≡ head_of k number field ++ (behind ws ++ end)
unfolding head_of
text_is k number field ws =
    let n = decimal number in
    let f = decimal field in
    line_is (decimal k) (n ∷ f ∷ ws) ∙ rw (behind_cons n (f ∷ ws), behind_cons f ws, behind_cons n (f ∷ [])) (simp append_assoc)

text_refused : (k : ℕ) (e : Refused) → text_of k (Err e) ≡ head_of k (refusal_number e.refusal) e.field ++ end
unfolding text_of behind
text_refused k e = text_is k (refusal_number e.refusal) e.field []

text_taken : (k : ℕ) (zs : List ℤ) → text_of k (Ok zs) ≡ head_of k 0 0 ++ (texts zs ++ end)
unfolding text_of
text_taken k zs = text_is k 0 0 (map signed_decimal zs)

-- Whether the longest line has room decides.
pub line_out : (text out : List ℕ) → length out < most_line → (0 ≡ line_length text out) × ((out ≡ line_memory text out) × (0 ≤ length out))
unfolding line_length line_memory
line_out text out h = rw (lt-leb most_line (length out) h) (refl, (refl, omega arith))

pub line_in : {text out after : List ℕ} {r : ℕ} → most_line ≤ length out → length text ≤ most_line → Puts text out 0 after r
    → (r ≡ line_length text out) × ((after ≡ line_memory text out) × (r ≤ length after))
unfolding line_length line_memory
line_in {text = text} {out = out} room l f =
    let w = put_first (omega arith) f in
    rw (le-leb most_line (length out) room) (w.0, (w.1, omega (arith, w.0, put_length f)))

-- A line of a refusal, and one of values.
module _ (k : ℕ) {out mid after : List ℕ} {p r : ℕ} (room : most_line ≤ length out) where
  pub line_refused : (e : Refused) → Puts (head_of k (refusal_number e.refusal) e.field) out 0 mid p → Puts end mid p after r
      → (r ≡ line_length (text_of k (Err e)) out) × ((after ≡ line_memory (text_of k (Err e)) out) × (r ≤ length after))
  line_refused e f g =
      rw (text_refused k e)
      (line_in room (simp length-append (omega (arith, head_le k (refusal_number e.refusal) e.field))) (put_join f g))

  pub line_taken : (zs : List ℤ) {next : List ℕ} {q : ℕ} → length zs ≤ 32 → Puts (head_of k 0 0) out 0 mid p → Puts (texts zs) mid p next q → Puts end next q after r
      → (r ≡ line_length (text_of k (Ok zs)) out) × ((after ≡ line_memory (text_of k (Ok zs)) out) × (r ≤ length after))
  line_taken zs few f v g =
      rw (text_taken k zs)
      (line_in room (simp length-append (omega (arith, head_le k 0 0, values_le zs))) (put_join f (put_join v g)))

-- The text of an answer's line.

pub refusal_text_of : (k : ℕ) (e : Refused) (more : List (List ℕ)) → text_of k (Err e) ≡ answer_line k (fields_answer (Err e)) more
unfolding text_of answer_line
refusal_text_of k e more = rw (refusal_eqb e.refusal)

pub values_text_of : (k n : ℕ) (zs : List ℤ) → text_of k (Ok zs) ≡ answer_line k (fields_answer (Ok n)) (map signed_decimal zs)
unfolding text_of answer_line
values_text_of k n zs = refl

pub over_text : text_of 0 (Err (record { refusal = Input; field = 0 })) ≡ over_limit
unfolding over_limit
over_text = refusal_text_of 0 (record { refusal = Input; field = 0 }) []
