-- A whole row in a run: what a loop that puts or gets number after number keeps, and that the row reads back.
-- The bytes of the first k numbers are 8 * k long, so number k goes right behind them. Assumes nothing.
use mathlib.Core.Path.{◌≡◌, refl, sym, ◌∙◌, ap}
use mathlib.Core.List.{List, [], ◌∷◌, ◌++◌, append_assoc, append-nil}
use Prim.Native.Nat.{ℕ, zero, suc, ◌+◌, ◌*◌, ◌/◌, ◌≤◌, ◌<◌}
use native.Mathlib.Nat.{le_of_suc-le-suc, not-suc-le-zero}
use native.Mathlib.Numerals.{add-one}
use native.Mathlib.Omega.{arith}
use lib.IntN.{ℤ, pos}
use borrow.Author.Tests.{lt-leb, le-leb}
use lib.ListN.{length, get_or, set, take, drop, length-append, length-drop, drop_of_length-le}
use lib.Seq.{take-suc, take_at, take_all, drop_at, drop-cons, drop-drop, length-take-le, set_at}
use mir.Syntax.{w64}
use mir.Val.{SFits}
use Rattle.rules.specs.Collector.{bytes_of, int_in, row_bytes, row_in}
use Rattle.wire.specs.Run.{put_at, get_at, put_row, get_row}
use Rattle.wire.proofs.Bytes.{eight_bytes}
use Rattle.wire.proofs.Run.{put_in, get_in, int_bytes}

pub row_length_lem : (ms : List ℤ) → length (row_bytes ms) ≡ 8 * length ms
unfolding row_bytes
row_length_lem [] = refl
row_length_lem (m ∷ ms) = rw (length-append (bytes_of m) (row_bytes ms), eight_bytes m, row_length_lem ms) (omega arith)

-- one number more at the end
row_snoc : (ms : List ℤ) (m : ℤ) (rest : List ℕ) → row_bytes (ms ++ (m ∷ [])) ++ rest ≡ row_bytes ms ++ (bytes_of m ++ rest)
unfolding row_bytes
row_snoc [] m rest = append_assoc (bytes_of m) [] rest
row_snoc (x ∷ ms) m rest =
    append_assoc (bytes_of x) (row_bytes (ms ++ (m ∷ []))) rest
    ∙ ap (λ (l : List ℕ). bytes_of x ++ l) (row_snoc ms m rest)
    ∙ sym (append_assoc (bytes_of x) (row_bytes ms) (bytes_of m ++ rest))

-- a run whose first k numbers are the row's, and which is as it was from there on, takes the next
pub row_put : (ms : List ℤ) (k : ℕ) (d : List ℕ) → k < length ms → 8 * length ms ≤ length d → put_at (row_bytes (take k ms) ++ drop (8 * k) d) (8 * k) (get_or ms k (pos 0)) ≡ row_bytes (take (k + 1) ms) ++ drop (8 * (k + 1)) d
row_put ms k d l room =
    let p = row_bytes (take k ms) in
    let q = drop (8 * k) d in
    let m = get_or ms k (pos 0) in
    let long : length p ≡ 8 * k = row_length_lem (take k ms) ∙ ap (λ n. 8 * n) (length-take-le k ms (omega arith)) in
    let whole : length (p ++ q) ≡ length d = rw (length-append p q, long, length-drop (8 * k) d) (omega arith) in
    let e : 8 * (k + 1) ≡ 8 * k + 8 = omega arith in
    put_in (p ++ q) (8 * k) m (omega arith)
    ∙ rw (take_at p q (8 * k) long, ← drop-drop 8 (8 * k) (p ++ q), drop_at p q (8 * k) long, drop-drop 8 (8 * k) d, e, add-one k, take-suc ms k (pos 0) l)
    (sym (row_snoc (take k ms) m (drop (8 * k + 8) d)))

pub row_in_length : (n : ℕ) (s : List ℕ) → length (row_in n s) ≡ n
unfolding row_in
row_in_length zero s = refl
row_in_length (suc n) s = ap suc (row_in_length n (drop 8 s))

-- number k of a run
row_in_at : (n k : ℕ) (s : List ℕ) → k < n → get_or (row_in n s) k (pos 0) ≡ int_in (drop (8 * k) s)
unfolding row_in
row_in_at zero k s h = absurd (not-suc-le-zero h)
row_in_at (suc n) zero s h = refl
row_in_at (suc n) (suc k) s h =
    let e : 8 + 8 * k ≡ 8 * suc k = omega arith in
    row_in_at n k (drop 8 s) (le_of_suc-le-suc h) ∙ ap int_in (drop-drop (8 * k) 8 s ∙ ap (λ i. drop i s) e)

pub row_get : (n k : ℕ) (s : List ℕ) → k < n → 8 * n ≤ length s → get_at s (8 * k) ≡ get_or (row_in n s) k (pos 0)
row_get n k s h room = get_in s (8 * k) (omega arith) ∙ sym (row_in_at n k s h)

-- there and back
pub row_back : (ms : List ℤ) (rest : List ℕ) → ((k : ℕ) → SFits w64 (get_or ms k (pos 0))) → row_in (length ms) (row_bytes ms ++ rest) ≡ ms
unfolding row_bytes row_in
row_back [] rest f = refl
row_back (m ∷ ms) rest f =
    rw (append_assoc (bytes_of m) (row_bytes ms) rest, int_bytes m (row_bytes ms ++ rest) (f 0), drop_at (bytes_of m) (row_bytes ms ++ rest) 8 (eight_bytes m), row_back ms rest (λ k. f (suc k)))

-- `put_row`, where the bytes do not fit, before its first turn, and after its last
module _ (d : List ℕ) where
  pub put_row_out : (ms : List ℤ) → length d / 8 < length ms → put_row d ms ≡ d
  unfolding put_row
  put_row_out ms h = rw (lt-leb (8 * length ms) (length d) (omega arith))

  pub put_row_none : d ≡ row_bytes [] ++ drop (8 * 0) d
  unfolding row_bytes
  put_row_none = refl

  pub put_row_in : (ms : List ℤ) → 8 * length ms ≤ length d → row_bytes (take (length ms) ms) ++ drop (8 * length ms) d ≡ put_row d ms
  unfolding put_row
  put_row_in ms h = rw (le-leb (8 * length ms) (length d) h, take_all (length ms) ms (omega arith))

-- `get_row` likewise
module _ (s : List ℕ) where
  pub get_row_out : (row : List ℤ) → length s / 8 < length row → get_row s row ≡ row
  unfolding get_row
  get_row_out row h = rw (lt-leb (8 * length row) (length s) (omega arith))

  pub get_row_in : (row : List ℤ) → 8 * length row ≤ length s → take (length row) (row_in (length row) s) ++ drop (length row) row ≡ get_row s row
  unfolding get_row
  get_row_in row h =
      rw (le-leb (8 * length row) (length s) h, take_all (length row) (row_in (length row) s) (rw (row_in_length (length row) s) (omega arith)), drop_of_length-le row {i = length row} (omega arith)) (append-nil _)

  -- one number more
  pub get_row_more : (row : List ℤ) (k : ℕ) → k < length row → 8 * length row ≤ length s
      → set (take k (row_in (length row) s) ++ drop k row) k (get_at s (8 * k)) ≡ take (k + 1) (row_in (length row) s) ++ drop (k + 1) row
  get_row_more row k l h =
      let n = length row in
      let e : length (row_in n s) ≡ n = row_in_length n s in
      let p : length (take k (row_in n s)) ≡ k = length-take-le k (row_in n s) (omega arith) in
      let q : k < length (row_in n s) = omega arith in
      rw (row_get n k s l h, add-one, take-suc (row_in n s) k (pos 0) q, append_assoc, drop-cons row k (pos 0) l, set_at (take k (row_in n s)) (get_or row k (pos 0)) (drop (suc k) row) (get_or (row_in n s) k (pos 0)) k p)
