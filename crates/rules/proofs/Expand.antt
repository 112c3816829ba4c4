-- What a text expands to is spelled of symbols, with a mark only at its end, and such a list is its own expansion. Assumes nothing.
use Prim.Native.Nat.{ℕ, zero, suc}
use Prim.Native.Char.{code}
use mathlib.Core.Path.{◌≡◌, refl, sym, ap, ◌∙◌}
use mathlib.Core.Bool.{Bool, true, false, cond, not, ◌&&◌, ◌||◌, or-true}
use mathlib.Core.Logic.{◌⊎◌, inl, inr, ⊎_elim}
use mathlib.Core.List.{List, [], ◌∷◌, ◌++◌}
use mathlib.Core.Option.{Option, none, some, none-ne-some}
use borrow.Author.Tests.{not-true}
use lib.Dec.{eqb, leb}
use lib.ListN.{replicate}
use Rattle.rules.specs.Words.{has}
use Rattle.rules.specs.Text.{allows, copies, ended, expand_from, is_mark, is_plain, is_symbol, most_copies, next, onto, repeatable, repeats, symbols}
use Rattle.rules.specs.declared.Mode.{Mode}
use Rattle.rules.specs.declared.Mode.TheVariants.{Closed, OneDigit, Opened, Plain, Spoilt, TwoDigits}
use Rattle.rules.proofs.Lists.{all, members}
use Rattle.rules.proofs.Logic.{both, by_test}

unfoldable pub spelled : List ℕ → Bool
spelled [] = true
spelled (b ∷ s) = is_mark (b ∷ s) || (is_symbol b && spelled s)

no_paren : (b : ℕ) → is_symbol b ≡ true → eqb b (code "(") ≡ false
no_paren b h = not-true _ (members (λ x. not (eqb x (code "("))) symbols (unfold all in refl) b h)

pub own_expansion : (s : List ℕ) → spelled s ≡ true → expand_from Plain s ≡ some s
unfolding spelled expand_from next copies
own_expansion [] h = refl
own_expansion (b ∷ s) h =
    by_test (is_mark (b ∷ s)) (λ e. rw e)
    (λ e.
    let w = both (is_symbol b) (spelled s) (rw e at h) in
    rw (e, no_paren b w.0, w.0, own_expansion s w.1))

repeats_symbol : (b : ℕ) → repeats b ≡ true → is_symbol b ≡ true
repeats_symbol b h = members is_symbol repeatable (unfold all has in refl) b h

-- a byte spoils the text, or stands nowhere, or is a symbol
legal : (m : Mode) (b : ℕ) → (next m b ≡ Spoilt) ⊎ ((copies m b ≡ 0) ⊎ (is_symbol b ≡ true))
unfolding next copies
legal Plain b =
    by_test (eqb b (code "(")) (λ e. inr (inl (rw e)))
    (λ e. by_test (is_symbol b) (λ q. inr (inr q)) (λ q. inl (rw (e, q))))
legal Opened b = inr (inl refl)
legal (OneDigit n) b = inr (inl refl)
legal (TwoDigits n) b = inr (inl refl)
legal (Closed n) b =
    by_test (allows n b) (λ q. inr (inr (repeats_symbol b (both (repeats b) (leb 1 n && leb n most_copies) q).0))) (λ q. inl (rw q))
legal Spoilt b = inl refl

stays_spoilt : (t s : List ℕ) → expand_from Spoilt t ≡ some s → ⊥
unfolding expand_from next
stays_spoilt [] s e = none-ne-some s e
stays_spoilt (b ∷ t) s e = absurd (never (expand_from Spoilt t) (λ r. stays_spoilt t r) e)
  where
    never : (o : Option (List ℕ)) → ((r : List ℕ) → o ≡ some r → ⊥) → onto (replicate (copies Spoilt b) b) o ≡ some s → ⊥
    never none n z = none-ne-some s z
    never (some r) n z = n r refl

repeated : (n b : ℕ) (r : List ℕ) → is_symbol b ≡ true → spelled r ≡ true → spelled (replicate n b ++ r) ≡ true
unfolding spelled
repeated zero b r p q = q
repeated (suc n) b r p q = rw (p, repeated n b r p q, or-true)

pub expanded : (m : Mode) (t s : List ℕ) → expand_from m t ≡ some s → spelled s ≡ true
unfolding expand_from spelled
expanded m [] s e = last m e
  where
    last : (m' : Mode) → ended m' ≡ some s → spelled s ≡ true
    last Plain z = let q : [] ≡ s = cc z in rw (← q)
    last Opened z = absurd (none-ne-some s z)
    last (OneDigit n) z = absurd (none-ne-some s z)
    last (TwoDigits n) z = absurd (none-ne-some s z)
    last (Closed n) z = absurd (none-ne-some s z)
    last Spoilt z = absurd (none-ne-some s z)
expanded m (b ∷ t) s e = at (is_plain m && is_mark (b ∷ t)) refl (expand_from (next m b) t) refl (λ r. expanded (next m b) t r) e
  where
    at : (k : Bool) → (is_plain m && is_mark (b ∷ t)) ≡ k → (o : Option (List ℕ)) → expand_from (next m b) t ≡ o
        → ((r : List ℕ) → expand_from (next m b) t ≡ some r → spelled r ≡ true) → cond k (some (b ∷ t)) (onto (replicate (copies m b) b) o) ≡ some s → spelled s ≡ true
    at true q o f ih z = let p : b ∷ t ≡ s = cc z in rw (← p) (rw (both (is_plain m) (is_mark (b ∷ t)) q).1)
    at false q none f ih z = absurd (none-ne-some s z)
    at false q (some r) f ih z =
        let p : replicate (copies m b) b ++ r ≡ s = cc z in
        rw (← p) (⊎_elim (λ n. absurd (stays_spoilt t r (sym (ap (λ (x : Mode). expand_from x t) n) ∙ f)))
        (λ w. ⊎_elim (λ n. rw n (ih r f)) (λ y. repeated (copies m b) b r y (ih r f)) w)
        (legal m b))
