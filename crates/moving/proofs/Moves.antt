-- A read behind what has been read, and a write behind what has been written, move the bytes of both. Assumes nothing.
use mathlib.Core.Path.{◌≡◌, ◌∙◌}
use mathlib.Core.List.{List, ◌++◌, append_assoc, append-nil}
use Prim.Native.Nat.{ℕ, ◌+◌, ◌-◌, ◌≤◌}
use lib.ListN.{length, take, drop, drop_of_length-le}
use lib.Seq.{length-take-le, take-append-add, take-append-le}
use Rattle.std.specs.Prelude.{Option}
use Rattle.std.specs.Io.KnownBytes.{Appends, Consumes}
use Rattle.std.proofs.Common.{take-append-drop}
use Rattle.std.proofs.lemmas.List.{take_rest}
use Rattle.std.proofs.KnownBytes.{Consumes-trans, Appends-trans}

-- `buf` came back in the place of all that stood from `count` on
pub read_on : (a b c : Option (List ℕ)) (count more : ℕ) (input buf behind : List ℕ) → count ≤ length input → more ≤ length buf
    → Consumes a b (take count input) → Consumes b c (take more buf)
    → Consumes a c (take (count + more) (take count input ++ (buf ++ behind)))
read_on a b c count more input buf behind l m p q =
    let n = length-take-le count input l in
    let e = rw n at (take-append-add (take count input) (buf ++ behind) more) in
    rw (e, take-append-le more buf behind m) (Consumes-trans a b c _ _ p q)

-- what has been written, from `a` to `b`, is what the text has before the rest
pub record Written (a b : Option (List ℕ)) (text rest : List ℕ) : Type 0 where
  pub done : List ℕ
  pub is : text ≡ done ++ rest
  pub appends : Appends a b done

pub written_on : (a b c : Option (List ℕ)) (text rest : List ℕ) (n : ℕ) → Written a b text rest → Appends b c (take n rest)
    → Written a c text (take (length rest - n) (drop n rest))
written_on a b c text rest n w p =
    record {
      done = w.done ++ take n rest;
      is = w.is ∙ rw (append_assoc w.done (take n rest) _, take_rest rest n, take-append-drop n rest);
      appends = Appends-trans a b c _ _ w.appends p;
    }

pub written_all : (a b : Option (List ℕ)) (text rest : List ℕ) → Written a b text rest → length rest ≤ 0 → Appends a b text
written_all a b text rest w l =
    let e = drop_of_length-le rest {i = 0} l in
    rw (w.is, e, append-nil w.done) w.appends
