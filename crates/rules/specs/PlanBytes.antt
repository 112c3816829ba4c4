-- Beyond RULES: the forms that bytes hold, read off with no check, and the bytes that are a plan as one test. proofs/Plans.antt proves that
-- bytes pass it exactly when some accepted layout has them as its plan. Assumes nothing.
use Rattle.std.specs.Prelude.{ℕ, zero, suc, ◌+◌, ◌*◌, Bool, true, ◌&&◌, List, [], ◌∷◌, leb, length, get_or, take, drop}
use Rattle.rules.specs.Words.{same}
use Rattle.rules.specs.Form.{Form}
use Rattle.rules.specs.Layout.{most_pictures, plan_of}
use Rattle.rules.specs.Good.{good}

-- c fields with the headers h and the positions p
unfoldable pub forms_from : ℕ → List ℕ → List ℕ → List Form
forms_from zero h p = []
forms_from (suc c) h p =
    record { roles = take (get_or h 0 0) p; vee = get_or h 1 0; kind = get_or h 2 0 } ∷ forms_from c (drop 3 h) (drop (get_or h 0 0) p)

unfoldable pub forms_in : List ℕ → List Form
forms_in b = forms_from (get_or b 0 0) (drop 1 b) (drop (3 * get_or b 0 0 + 3) b)

unfoldable pub all_good : List Form → Bool
all_good [] = true
all_good (φ ∷ φs) = good φ && all_good φs

-- the forms read off are good, and they give these bytes again
unfoldable pub is_plan : List ℕ → Bool
is_plan b = leb 1 (length (forms_in b)) && (leb (length (forms_in b)) most_pictures && (all_good (forms_in b) && same b (plan_of (forms_in b))))
