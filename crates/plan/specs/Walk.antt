-- Beyond RULES: the forms that an iterator over headers and positions still has to give. Assumes nothing.
use Rattle.std.specs.Prelude.{ℕ, ◌*◌, Bool, cond, ◌&&◌, List, [], ◌∷◌, leb, eqb, length, take, drop}
use Rattle.rules.specs.Form.{Form, formed}
use Rattle.rules.specs.Layout.{record_length}
use Rattle.rules.specs.PlanBytes.{all_good}
use Rattle.plan.specs.declared.walk.Forms.{Forms}

-- three bytes a header; the first whose part passes the end is the last of all
unfoldable pub forms_read : List ℕ → List ℕ → List Form
forms_read (n ∷ vee ∷ kind ∷ h) p = cond (leb n (length p)) (formed (take n p) vee kind ∷ forms_read h (drop n p)) []
forms_read h p = []

abbrev pub forms_left : Forms → List Form
forms_left fs = forms_read fs.headers.now fs.positions.now

-- each header has its form, the forms take all positions, and they are good
unfoldable pub all_read : List ℕ → List ℕ → Bool
all_read h p =
    let φs = forms_read h p in
    (eqb (3 * length φs) (length h) && eqb (record_length φs) (length p)) && all_good φs
