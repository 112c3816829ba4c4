-- `picture::editing::edit_picture` meets its contract: each way through it is a law of EditWays, for whichever text
-- has the picture. Assumes nothing.
use mathlib.Core.List.{List}
use mathlib.Core.Path.{◌≡◌, ◌∙◌, ap}
use Prim.Native.Nat.{ℕ}
use native.Mathlib.Omega.{arith}
use mir.Facts.{to_z-of_z}
use Rattle.std.proofs.lemmas.Result.{err_from_is_err_and}
use Rattle.rules.specs.Form.{size}
use Rattle.rules.specs.Shape.{picture_of, verdict}
use Rattle.form.specs.Rooms.{meaning_of}
use Rattle.picture.proofs.Judging.{form_is}
use Rattle.picture.proofs.Lent.{lent_is}
use Rattle.picture.proofs.EditWays.{scale_refused, not_settled, no_room, done}
use Rattle.picture.proofs.editing.edit_picture.Goals as goal

pub returns-then-q : goal.returns-then-q
returns-then-q c =
    record {
      answer = λ t v p. (scale_refused c.args.rounding t c.args.m c.args.q c.args.out.now v (omega arith)).0;
      memory = λ t v p. (scale_refused c.args.rounding t c.args.m c.args.q c.args.out.now v (omega arith)).1;
    }

pub returns-in_err-signed : goal.returns-in_err-signed
returns-in_err-signed c =
    let e = err_from_is_err_and c.from_residual.result c.from_residual.ensures.1 in
    let ways = λ (t : List ℕ) (v : 0 ≡ verdict t) (p : c.args.picture ≡ picture_of t).
    let φ = lent_is _ _ (c.form_of-meaning.ensures ∙ ap meaning_of (form_is t c.args.picture v p)) _ c.lent-form.ensures in
    not_settled c.args.rounding t c.args.m c.args.q c.args.out.now v _ (rw (φ, to_z-of_z c.ranges.m) at c.in_err-signed.ensures) in
    record { answer = λ t v p. rw (e.1, e.2) (ways t v p).0; memory = λ t v p. (ways t v p).1 }

pub returns-then-out-size : goal.returns-then-out-size
returns-then-out-size c =
    let ways = λ (t : List ℕ) (v : 0 ≡ verdict t) (p : c.args.picture ≡ picture_of t).
    let φ = lent_is _ _ (c.form_of-meaning.ensures ∙ ap meaning_of (form_is t c.args.picture v p)) _ c.lent-form.ensures in
    no_room c.args.rounding t c.args.m c.args.q c.args.out.now v _ (rw (φ, to_z-of_z c.ranges.m) at c.in_ok-signed.ensures) (rw (ap size φ) at c.if-out-size.true) in
    record { answer = λ t v p. (ways t v p).0; memory = λ t v p. (ways t v p).1 }

pub returns : goal.returns
returns c =
    let here = λ (t : List ℕ) (v : 0 ≡ verdict t) (p : c.args.picture ≡ picture_of t). lent_is _ _ (c.form_of-meaning.ensures ∙ ap meaning_of (form_is t c.args.picture v p)) _ c.lent-form.ensures in
    let ways = λ (t : List ℕ) (v : 0 ≡ verdict t) (p : c.args.picture ≡ picture_of t).
    let φ = here t v p in
    done c.args.rounding t c.args.m c.args.q c.args.out.now v _ (rw (φ, to_z-of_z c.ranges.m) at c.in_ok-signed.ensures) (rw (ap size φ) at c.if-out-size.false)
    _ c.character_table.ensures _ (rw φ at c.put.ensures.memory) in
    record { answer = λ t v p. rw (ap size (here t v p)) (ways t v p).0; memory = λ t v p. (ways t v p).1 }
