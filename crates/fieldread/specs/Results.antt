-- What the call of this crate answers, over all inputs: bytes that are no roles, a kind that is none, a V past the end. Assumes nothing.
use Rattle.std.specs.Prelude.{cond, ◌&&◌, List, ℕ, ℤ, None, leb, eqb, length}
use Rattle.std.specs.declared.option.Option.{Option}
use Rattle.rules.specs.Form.{Form, size}
use Rattle.rules.specs.Shape.{digit_count, most_digits}
use Rattle.rules.specs.Candidate.{option_of, read_of}

-- a form with more digits than a picture may have, or a field of another length, shows no value
unfoldable pub read_in : Form → List ℕ → Option ℤ
read_in φ f = cond (leb (digit_count φ) most_digits && eqb (length f) (size φ)) (option_of (read_of φ f)) None
