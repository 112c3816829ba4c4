-- The words of the rules for what stands in a list are those of the library, so that what its iterators' contracts say is said in ours:
-- `any` is what `any` answers, `count` and `times` are what `filter` and `count` give, `place` is where `position` finds. Assumes nothing.
use Prim.Native.Nat.{ℕ, suc, ◌+◌}
use mathlib.Core.Path.{◌≡◌, refl, ◌∙◌}
use mathlib.Core.Bool.{Bool, true, false, not, cond}
use mathlib.Core.List.{List, [], ◌∷◌}
use native.Mathlib.Omega.{arith}
use lib.Dec.{eqb}
use Rattle.std.specs.List.{list_any, count_by, sum_by, position_or_len, fold}
use Rattle.rules.specs.Words.{any, count, has, one, place, times}

pub any_is : (p : ℕ → Bool) (xs : List ℕ) → list_any p xs ≡ any p xs
unfolding any
any_is p [] = refl
any_is p (x ∷ xs) = rw (any_is p xs) refl

pub has_is : (x : ℕ) (xs : List ℕ) → list_any (λ y. eqb x y) xs ≡ has x xs
unfolding has
has_is x [] = refl
has_is x (y ∷ ys) = rw (has_is x ys) refl

-- A sum from a on is a more than one from 0.
sum_from : (f : ℕ → ℕ) (a : ℕ) (xs : List ℕ) → fold (λ b x. b + f x) a xs ≡ a + sum_by f xs
sum_from f a [] = omega arith
sum_from f a (x ∷ xs) =
    let there : (fold (λ b y. b + f y) (a + f x) xs ≡ a + f x + sum_by f xs) = sum_from f (a + f x) xs in
    let here : (fold (λ b y. b + f y) (0 + f x) xs ≡ 0 + f x + sum_by f xs) = sum_from f (0 + f x) xs in
    rw (there, here) (omega arith)

one_more : (b : Bool) (n m : ℕ) → n ≡ m → 0 + cond b 1 0 + n ≡ cond b (suc m) m
one_more true n m e = rw e (omega arith)
one_more false n m e = rw e (omega arith)

one_or_none : (b : Bool) (n m : ℕ) → n ≡ m → 0 + cond b 1 0 + n ≡ one b + m
one_or_none true n m e = rw e (omega arith)
one_or_none false n m e = rw e (omega arith)

pub count_is : (p : ℕ → Bool) (xs : List ℕ) → count_by p xs ≡ count p xs
unfolding count
count_is p [] = refl
count_is p (x ∷ xs) = sum_from (λ y. cond (p y) 1 0) (0 + cond (p x) 1 0) xs ∙ one_more (p x) _ _ (count_is p xs)

pub times_is : (x : ℕ) (xs : List ℕ) → count_by (λ y. eqb x y) xs ≡ times x xs
unfolding times
times_is x [] = refl
times_is x (y ∷ ys) = sum_from (λ z. cond (eqb x z) 1 0) (0 + cond (eqb x y) 1 0) ys ∙ one_or_none (eqb x y) _ _ (times_is x ys)

first_or_later : (b : Bool) (n m : ℕ) → n ≡ m → cond (not b) (1 + n) 0 ≡ cond b 0 (suc m)
first_or_later true n m e = refl
first_or_later false n m e = rw e (omega arith)

pub place_is : (x : ℕ) (xs : List ℕ) → position_or_len (λ y. eqb x y) xs ≡ place x xs
unfolding place
place_is x [] = refl
place_is x (y ∷ ys) = first_or_later (eqb x y) _ _ (place_is x ys)
