-- `totaller::limit_of` meets its contract, refusal by refusal. Assumes nothing.
use mathlib.Core.Path.{◌≡◌, refl}
use mathlib.Core.Logic.{⊎_elim}
use borrow.Author.Rules.{rules}
use Rattle.rules.specs.declared.Refusal.{Refusal}
use Rattle.rules.specs.declared.Refusal.TheVariants.{Text, Symbol, Long, Shape, Digits, Value, Room, Size, Length, Conversion, Count, Plan, Input, Full}
use Rattle.rules.specs.Refusals.{refusal_number}
use Rattle.listing.specs.TotalProgram.{limit_of}
use Rattle.totaller.proofs.limit_of.Goals as goal

no_limit : (r : Refusal) → (r ≡ Full → ⊥) → (r ≡ Size → ⊥) → 0 ≡ limit_of (refusal_number r)
unfolding limit_of
no_limit Text f g = refl
no_limit Symbol f g = refl
no_limit Long f g = refl
no_limit Shape f g = refl
no_limit Digits f g = refl
no_limit Value f g = refl
no_limit Room f g = refl
no_limit Size f g = absurd (g refl)
no_limit Length f g = refl
no_limit Conversion f g = refl
no_limit Count f g = refl
no_limit Plan f g = refl
no_limit Input f g = refl
no_limit Full f g = absurd (f refl)

pub returns-in-Full : goal.returns-in-Full
unfolding limit_of
returns-in-Full c = ⊎_elim (λ e. rw e) (λ e. rw e) c.in-Full.is

pub returns-in_default : goal.returns-in_default
returns-in_default c = no_limit _ (search rules) (search rules)
