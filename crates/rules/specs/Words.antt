-- Words that every definition uses: quoted text as bytes, and what stands in a list. Assumes nothing.
use Rattle.std.specs.Prelude.{ℕ, suc, ◌+◌, Bool, true, false, cond, ◌&&◌, ◌||◌, List, [], ◌∷◌, eqb}
use Prim.Native.Char.{code}
use Prim.Native.String.{String, [] as none, ◌∷◌ as ◌then◌}

-- the bytes of a quoted text, so that a definition can show the characters that it speaks of
abbrev pub text : String → List ℕ
text none = []
text (c then cs) = code c ∷ text cs

-- 1 where the test holds, else 0
abbrev pub one : Bool → ℕ
one true = 1
one false = 0

-- x stands in the list
unfoldable pub has : ℕ → List ℕ → Bool
has x [] = false
has x (y ∷ ys) = eqb x y || has x ys

-- how often x stands in the list
unfoldable pub times : ℕ → List ℕ → ℕ
times x [] = 0
times x (y ∷ ys) = one (eqb x y) + times x ys

-- how many stand before the first x; all of them where there is none
unfoldable pub place : ℕ → List ℕ → ℕ
place x [] = 0
place x (y ∷ ys) =
    let later = suc (place x ys) in
    cond (eqb x y) 0 later

-- some member has p
unfoldable pub any : (ℕ → Bool) → List ℕ → Bool
any p [] = false
any p (r ∷ rs) = p r || any p rs

-- how many members have p
unfoldable pub count : (ℕ → Bool) → List ℕ → ℕ
count p [] = 0
count p (r ∷ rs) =
    let rest = count p rs in
    cond (p r) (suc rest) rest

-- the two lists are equal, as a test
unfoldable pub same : List ℕ → List ℕ → Bool
same [] [] = true
same [] (y ∷ ys) = false
same (x ∷ xs) [] = false
same (x ∷ xs) (y ∷ ys) = eqb x y && same xs ys
