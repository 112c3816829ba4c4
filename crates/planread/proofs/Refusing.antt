-- What is handed over for an error that is passed on. Assumes nothing.
use mathlib.Core.Path.{◌≡◌}
use Rattle.std.specs.Prelude.{Err, IsErrAnd, Ok, Option, Result}
use Rattle.totals.specs.declared.Bounds.{Bounds}
use Rattle.rules.specs.declared.Refusal.{Refusal}
use Rattle.rules.specs.Refusals.{refusal_number}
use Rattle.totals.specs.Batch.{Refused as RefusedAt, handed}

pub handed_on : (r : Result (Option Bounds) Refusal) (refusal : Refusal) → IsErrAnd r (λ e. e ≡ refusal) → handed r ≡ RefusedAt (refusal_number refusal)
handed_on (Ok there) refusal h = absurd h
handed_on (Err e) refusal h = rw h
