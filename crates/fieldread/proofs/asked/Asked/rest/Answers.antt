-- `rest`: printing has started, and each bare digit so far is one. Assumes nothing.
use borrow.Author.Rules.{rules}
use Prim.Native.Nat.{◌+◌, ◌≤◌, ◌<◌, ◌-◌}
use mathlib.Core.Path.{◌≡◌, ap, sym, ◌∙◌}
use Rattle.std.specs.Slice.Iter.{iter_rest}
use Rattle.std.specs.Iterator.Adapters.{zip_first, zip_second}
use native.Mathlib.Omega.{arith}
use mathlib.Core.List.{[], ◌∷◌, ◌++◌}
use lib.ListN.{length, get_or, drop, length-append, length-drop, length-take, take}
use Rattle.std.proofs.lemmas.List.Edits.{get_or-between}
use Rattle.std.proofs.lemmas.Slice.Zip.{zip_end, zip_turn}
use Rattle.rules.specs.Form.{form_in, role_at}
use Rattle.fieldread.proofs.Passing.{fine_digit, fine_first, fine_other, out_late, said_all, said_digit, said_none, said_other, said_small, start_least}
use Rattle.fieldread.proofs.asked.Asked.rest.Goals as goal

pub slice_bounds-iter-count : goal.slice_bounds-iter-count
slice_bounds-iter-count c = omega (arith, c.requires.1, start_least (form_in c.args.self.now.form) c.args.self.now.field.now)

pub slice_bounds-iter-start : goal.slice_bounds-iter-start
slice_bounds-iter-start c =
    let h : c.args.from ≤ length c.args.self.now.form.roles.now = omega (arith, c.requires.1, start_least (form_in c.args.self.now.form) c.args.self.now.field.now) in
    search rules

pub slice_bounds-zip-count : goal.slice_bounds-zip-count
slice_bounds-zip-count c = omega (arith, c.requires.1, c.args.self.now.long, start_least (form_in c.args.self.now.form) c.args.self.now.field.now)

pub slice_bounds-zip-start : goal.slice_bounds-zip-start
slice_bounds-zip-start c =
    let h : c.args.from ≤ length c.args.self.now.field.now = omega (arith, c.requires.1, c.args.self.now.long, start_least (form_in c.args.self.now.form) c.args.self.now.field.now) in
    search rules

pub loop-role-init : goal.loop-role-init
loop-role-init c =
    let φ = form_in c.args.self.now.form in
    let f = c.args.self.now.field.now in
    let e : c.args.from + 0 ≡ c.args.from = omega arith in
    (omega (arith, c.requires.1), rw e c.requires.0, rw e (fine_first φ f _ c.requires.1))

pub print-said-requires : goal.print-said-requires
print-said-requires c =
    rw c.loop-role.invariant.1 (said_small _ _ c.args.self.now.few _)

pub print_digit-said-requires : goal.print_digit-said-requires
print_digit-said-requires c =
    rw c.loop-role.invariant.1 (said_small _ _ c.args.self.now.few _)

pub loop-role-preserved-then-not-is_bare : goal.loop-role-preserved-then-not-is_bare
loop-role-preserved-then-not-is_bare c =
    let φ = form_in c.args.self.now.form in
    let f = c.args.self.now.field.now in
    let from = c.args.from in
    let n = length c.loop-role.yielded in
    let k = from + n in
    let turn = zip_turn (take (length φ.roles - from) (drop from φ.roles)) (take (length f - from) (drop from f)) c.loop-role.yielded c.into_iter-role-iterator.result c.loop-role.role-iterator c.next.new.self _ (ap (λ z. iter_rest (zip_first z)) c.into_iter-role-iterator.ensures.into_iter_gives ∙ ap iter_rest c.zip-printing.ensures.first ∙ c.iter.ensures.rest) (ap (λ z. iter_rest (zip_second z)) c.into_iter-role-iterator.ensures.into_iter_gives ∙ c.zip-printing.ensures.second.0) c.loop-role.yielded_by _ c.in-Some.is c.next.ensures.steps in
    let h : k < length φ.roles = omega (arith, turn.0, length-take (length φ.roles - from) (drop from φ.roles), length-drop from φ.roles) in
    let role_is : c.in-Some.field-0-0.now ≡ role_at φ k = turn.2 0 ∙ get_or-between φ.roles from (length φ.roles) n 0 h in
    let c_is : c.in-Some.field-0-1.now ≡ get_or f k 0 = turn.3 0 ∙ get_or-between f from (length f) n 0 (omega arith) in
    let o = out_late φ f k (omega (arith, c.loop-role.invariant.0)) in
    let e : from + length (c.loop-role.yielded ++ ((c.in-Some.field-0-0, c.in-Some.field-0-1) ∷ [])) ≡ k + 1 = simp length-append (omega arith) in
    let b = rw role_is at (sym c.is_bare.ensures ∙ c.if-not-is_bare.true) in
    (c.loop-role.invariant.0, rw e (said_other φ f k _ _ h o c.loop-role.invariant.1 b (rw (role_is, c_is) at c.print-said.ensures)), rw e (fine_other φ f k b c.loop-role.invariant.2))

pub loop-role-preserved : goal.loop-role-preserved
loop-role-preserved c =
    let φ = form_in c.args.self.now.form in
    let f = c.args.self.now.field.now in
    let from = c.args.from in
    let n = length c.loop-role.yielded in
    let k = from + n in
    let turn = zip_turn (take (length φ.roles - from) (drop from φ.roles)) (take (length f - from) (drop from f)) c.loop-role.yielded c.into_iter-role-iterator.result c.loop-role.role-iterator c.next.new.self _ (ap (λ z. iter_rest (zip_first z)) c.into_iter-role-iterator.ensures.into_iter_gives ∙ ap iter_rest c.zip-printing.ensures.first ∙ c.iter.ensures.rest) (ap (λ z. iter_rest (zip_second z)) c.into_iter-role-iterator.ensures.into_iter_gives ∙ c.zip-printing.ensures.second.0) c.loop-role.yielded_by _ c.in-Some.is c.next.ensures.steps in
    let h : k < length φ.roles = omega (arith, turn.0, length-take (length φ.roles - from) (drop from φ.roles), length-drop from φ.roles) in
    let role_is : c.in-Some.field-0-0.now ≡ role_at φ k = turn.2 0 ∙ get_or-between φ.roles from (length φ.roles) n 0 h in
    let c_is : c.in-Some.field-0-1.now ≡ get_or f k 0 = turn.3 0 ∙ get_or-between f from (length f) n 0 (omega arith) in
    let o = out_late φ f k (omega (arith, c.loop-role.invariant.0)) in
    let e : from + length (c.loop-role.yielded ++ ((c.in-Some.field-0-0, c.in-Some.field-0-1) ∷ [])) ≡ k + 1 = simp length-append (omega arith) in
    let b = rw role_is at (sym c.is_bare.ensures ∙ c.if-not-is_bare.false) in
    let d = rw c_is at (sym c.is_decimal.ensures ∙ c.if-not-is_decimal.false) in
    (c.loop-role.invariant.0, rw e (said_digit φ f k _ _ h o c.loop-role.invariant.1 b (rw c_is at c.print_digit-said.ensures)), rw e (fine_digit φ f k d c.loop-role.invariant.2))

pub returns-then-not-is_decimal : goal.returns-then-not-is_decimal
returns-then-not-is_decimal c =
    let φ = form_in c.args.self.now.form in
    let f = c.args.self.now.field.now in
    let from = c.args.from in
    let n = length c.loop-role.yielded in
    let k = from + n in
    let turn = zip_turn (take (length φ.roles - from) (drop from φ.roles)) (take (length f - from) (drop from f)) c.loop-role.yielded c.into_iter-role-iterator.result c.loop-role.role-iterator c.next.new.self _ (ap (λ z. iter_rest (zip_first z)) c.into_iter-role-iterator.ensures.into_iter_gives ∙ ap iter_rest c.zip-printing.ensures.first ∙ c.iter.ensures.rest) (ap (λ z. iter_rest (zip_second z)) c.into_iter-role-iterator.ensures.into_iter_gives ∙ c.zip-printing.ensures.second.0) c.loop-role.yielded_by _ c.in-Some.is c.next.ensures.steps in
    let h : k < length φ.roles = omega (arith, turn.0, length-take (length φ.roles - from) (drop from φ.roles), length-drop from φ.roles) in
    let role_is : c.in-Some.field-0-0.now ≡ role_at φ k = turn.2 0 ∙ get_or-between φ.roles from (length φ.roles) n 0 h in
    let c_is : c.in-Some.field-0-1.now ≡ get_or f k 0 = turn.3 0 ∙ get_or-between f from (length f) n 0 (omega arith) in
    said_none φ f k (omega (arith, c.loop-role.invariant.0)) h (rw role_is at (sym c.is_bare.ensures ∙ c.if-not-is_bare.false)) (rw c_is at (sym c.is_decimal.ensures ∙ c.if-not-is_decimal.true))

pub returns : goal.returns
returns c =
    let φ = form_in c.args.self.now.form in
    let f = c.args.self.now.field.now in
    let from = c.args.from in
    let all = zip_end (take (length φ.roles - from) (drop from φ.roles)) (take (length f - from) (drop from f)) c.loop-role.yielded c.into_iter-role-iterator.result c.loop-role.role-iterator c.next.new.self _ (ap (λ z. iter_rest (zip_first z)) c.into_iter-role-iterator.ensures.into_iter_gives ∙ ap iter_rest c.zip-printing.ensures.first ∙ c.iter.ensures.rest) (ap (λ z. iter_rest (zip_second z)) c.into_iter-role-iterator.ensures.into_iter_gives ∙ c.zip-printing.ensures.second.0) c.loop-role.yielded_by c.in-None.is c.next.ensures.steps in
    let e : from + length c.loop-role.yielded ≡ length φ.roles = omega (arith, all, length-take (length φ.roles - from) (drop from φ.roles), length-take (length f - from) (drop from f), length-drop from φ.roles, length-drop from f, c.args.self.now.long, c.loop-role.invariant.0, start_least φ f, c.requires.1) in
    said_all _ _ _ (rw e at c.loop-role.invariant.1) (rw e at c.loop-role.invariant.2)
