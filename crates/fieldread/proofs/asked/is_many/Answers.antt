-- `is_many`: more digits than a picture may have leave too few positions for what is none. Assumes nothing.
use borrow.Author.Rules.{rules}
use mathlib.Core.Bool.{not}
use native.Mathlib.Omega.{arith}
use Rattle.std.proofs.Common.{tests}
use Rattle.std.proofs.lemmas.Iterator.Adapters.{YieldsList-from_rev_slice}
use Rattle.std.proofs.lemmas.Iterator.Consumers.{YieldsList-at, YieldsList-from_filter, nth_from_yields_List}
use Rattle.rules.specs.Roles.{is_digit}
use Rattle.fieldread.proofs.Chains.{few_are, many_read}
use Rattle.fieldread.proofs.asked.is_many.Goals as goal

pub returns-then-roles-gt-MOST_DIGITS : goal.returns-then-roles-gt-MOST_DIGITS
returns-then-roles-gt-MOST_DIGITS c =
    let rs = c.args.roles.now in
    many_read _ _ _ rs c.is_none.ensures (omega arith) (nth_from_yields_List c.nth.result _ _ c.nth.ensures.ran (YieldsList-from_filter _ (λ r. not (is_digit r)) (YieldsList-at c.filter.ensures.source (YieldsList-from_rev_slice rs (cc))) c.filter.ensures.closure (λ x r q k. search (rules, tests))))

pub returns-else-roles-gt-MOST_DIGITS : goal.returns-else-roles-gt-MOST_DIGITS
returns-else-roles-gt-MOST_DIGITS c = few_are c.args.roles.now (omega arith)
