use Rattle.std.proofs.Common.{Option, ap, arith, refl, ◌∙◌}
use Rattle.std.specs.Option.{option_or}
use Rattle.std.proofs.lemmas.Result.{err_from_is_err_and, IfErr-weaker, on_ok_weaker}
use Rattle.language_base.specs.declared.span.Span.{Span}
use Rattle.query_resolver.specs.Findings.{first_in}
use Rattle.query_resolver.specs.Sizes.{has_many_positions}
use Rattle.query_model.specs.Queries.{plain_of}
use Rattle.query_model.specs.QueryTypes.{derived_columns, type_of}
use Rattle.query_model.specs.Rules.{bound}
use Rattle.query_resolver.proofs.ManyPositions.{few_over, few_over_both, many_over, many_over_both}
use Rattle.query_resolver.proofs.ManyPositions.{on_ok_both}
use Rattle.query_resolver.proofs.OfOperands.{one_inside, one_inside_both}
use Rattle.query_resolver.proofs.sizes.+positions.Goals as goal

-- of two operands
pub positions_of_two-returns-in_err-left-clause-first :
    goal.positions_of_two-returns-in_err-left-clause-first
positions_of_two-returns-in_err-left-clause-first t c =
    let err = err_from_is_err_and c.from_residual.result c.from_residual.ensures.1 in
    rw (err.1, err.2) (λ columns others standing other.
    ap (λ (found : Option Span). option_or found
    (first_in has_many_positions others other c.args.second.now))
    (c.in_err-left.ensures.first columns standing))

pub positions_of_two-returns-in_err-right-clause-first :
    goal.positions_of_two-returns-in_err-right-clause-first
positions_of_two-returns-in_err-right-clause-first t c =
    let err = err_from_is_err_and c.from_residual-in_err-right.result
    c.from_residual-in_err-right.ensures.1 in
    rw (err.1, err.2) (λ columns others standing other.
    ap (λ (found : Option Span). option_or found
    (first_in has_many_positions others other c.args.second.now))
    (c.in_ok-left.ensures.none columns standing)
    ∙ c.in_err-right.ensures.first others other)

-- of a node that has those of both
pub positions_of_both-returns-in_err-counts-clause-first :
    goal.positions_of_both-returns-in_err-counts-clause-first
positions_of_both-returns-in_err-counts-clause-first t c =
    let err = err_from_is_err_and c.from_residual.result c.from_residual.ensures.1 in
    rw (err.1, err.2) (λ columns node at is.
    one_inside_both has_many_positions node columns bound c.args.first.now columns bound
    c.args.second.now _ (c.in_err-counts.ensures.first columns columns bound bound))

pub positions_of_both-returns-clause-none : goal.positions_of_both-returns-clause-none
positions_of_both-returns-clause-none t c =
    let none = c.in_ok-counts.ensures.none in
    let left = c.in_ok-counts.ensures.left in
    let right = c.in_ok-counts.ensures.right in
    on_ok_weaker c.few_together.result (λ few columns node is.
    few_over_both node columns bound c.args.first.now (none columns bound).0
    columns bound c.args.second.now (none columns bound).1 (omega (arith, few, left, right, is)))
    c.few_together.ensures.few

pub positions_of_both-returns-clause-first : goal.positions_of_both-returns-clause-first
positions_of_both-returns-clause-first t c =
    let none = c.in_ok-counts.ensures.none in
    let left = c.in_ok-counts.ensures.left in
    let right = c.in_ok-counts.ensures.right in
    IfErr-weaker c.few_together.result _ _ (λ place (here, many) columns node at is.
    rw (here, ← at) (many_over_both node columns bound c.args.first.now (none columns bound).0
    columns bound c.args.second.now (none columns bound).1 (omega (arith, many, left, right, is))))
    c.few_together.ensures.many

-- and of one that has those of its first
pub positions_of_first-returns-in_err-counts-clause-first :
    goal.positions_of_first-returns-in_err-counts-clause-first
positions_of_first-returns-in_err-counts-clause-first t c =
    let err = err_from_is_err_and c.from_residual.result c.from_residual.ensures.1 in
    rw (err.1, err.2) (λ columns others standing other node.
    one_inside_both has_many_positions node columns standing c.args.first.now others other
    c.args.second.now _ (c.in_err-counts.ensures.first columns others standing other))

pub positions_of_first-returns-clause-none : goal.positions_of_first-returns-clause-none
positions_of_first-returns-clause-none t c = λ columns others standing other node is.
    let left = c.in_ok-counts.ensures.left in
    let small = c.in_ok-counts.ensures.small in
    few_over_both node columns standing c.args.first.now
    (c.in_ok-counts.ensures.none columns standing).0 others other c.args.second.now
    (c.in_ok-counts.ensures.none others other).1 (omega (arith, small.0, left, is))

-- of one that has those of a rate
pub positions_of_rate-returns-in_err-positions_of-clause-first :
    goal.positions_of_rate-returns-in_err-positions_of-clause-first
positions_of_rate-returns-in_err-positions_of-clause-first t c =
    let err = err_from_is_err_and c.from_residual.result c.from_residual.ensures.1 in
    rw (err.1, err.2) (λ columns node at is.
    one_inside has_many_positions node columns bound c.args.operand.now _
    (c.in_err-positions_of.ensures.first columns bound))

pub positions_of_rate-returns-clause-none : goal.positions_of_rate-returns-clause-none
positions_of_rate-returns-clause-none t c =
    let none = c.in_ok-positions_of.ensures.none in
    on_ok_weaker c.few_in.result (λ few columns node is.
    few_over node columns bound c.args.operand.now (none columns bound) (omega (arith, few, is)))
    c.few_in.ensures.few

pub positions_of_rate-returns-clause-first : goal.positions_of_rate-returns-clause-first
positions_of_rate-returns-clause-first t c =
    let none = c.in_ok-positions_of.ensures.none in
    IfErr-weaker c.few_in.result _ _ (λ place (here, many) columns node at is.
    rw (here, ← at) (many_over node columns bound c.args.operand.now (none columns bound)
    (omega (arith, many, is))))
    c.few_in.ensures.many

-- of a query
pub positions_of-returns-in-Or-clause-none : goal.positions_of-returns-in-Or-clause-none
positions_of-returns-in-Or-clause-none t c =
    let none = rw (c.deref.ensures, c.deref-in-Or.ensures) at c.positions_of_both.ensures.none in
    rw c.in-Or.is (on_ok_weaker c.positions_of_both.result
    (λ few columns standing. few columns _ refl) none)

pub positions_of-returns-in-Or-clause-first : goal.positions_of-returns-in-Or-clause-first
positions_of-returns-in-Or-clause-first t c =
    let first = rw (c.deref.ensures, c.deref-in-Or.ensures) at c.positions_of_both.ensures.first in
    rw c.in-Or.is (IfErr-weaker c.positions_of_both.result _ _
    (λ place some columns standing. some columns _ refl refl) first)

pub positions_of-returns-in-Split-clause-none : goal.positions_of-returns-in-Split-clause-none
positions_of-returns-in-Split-clause-none t c =
    let none = rw (c.deref-in-Split.ensures, c.deref-in-Split-2.ensures)
    at c.positions_of_both-in-Split.ensures.none in
    rw c.in-Split.is (on_ok_weaker c.positions_of_both-in-Split.result
    (λ few columns standing. few columns _ refl) none)

pub positions_of-returns-in-Split-clause-first : goal.positions_of-returns-in-Split-clause-first
positions_of-returns-in-Split-clause-first t c =
    let first = rw (c.deref-in-Split.ensures, c.deref-in-Split-2.ensures)
    at c.positions_of_both-in-Split.ensures.first in
    rw c.in-Split.is (IfErr-weaker c.positions_of_both-in-Split.result _ _
    (λ place some columns standing. some columns _ refl refl) first)

pub positions_of-returns-in-Combine-clause-none : goal.positions_of-returns-in-Combine-clause-none
positions_of-returns-in-Combine-clause-none t c =
    let none = rw (c.deref-in-Combine.ensures, c.deref-in-Combine-2.ensures) at
    c.positions_of_first.ensures.none in
    rw c.in-Combine.is (on_ok_weaker c.positions_of_first.result
    (λ few columns standing. few columns columns bound bound _ refl) none)

pub positions_of-returns-in-Combine-clause-first : goal.positions_of-returns-in-Combine-clause-first
positions_of-returns-in-Combine-clause-first t c =
    let first = rw (c.deref-in-Combine.ensures, c.deref-in-Combine-2.ensures) at
    c.positions_of_first.ensures.first in
    rw c.in-Combine.is (IfErr-weaker c.positions_of_first.result _ _
    (λ place some columns standing. some columns columns bound bound _) first)

pub positions_of-returns-in-Compose-clause-none : goal.positions_of-returns-in-Compose-clause-none
positions_of-returns-in-Compose-clause-none t c =
    let none = rw (c.deref-in-Compose.ensures, c.deref-in-Compose-2.ensures)
    at c.positions_of_first-in-Compose.ensures.none in
    rw c.in-Compose.is (on_ok_weaker c.positions_of_first-in-Compose.result
    (λ few columns standing. few columns
    (derived_columns (type_of columns (plain_of c.in-Compose.first.value.shape))) standing
    standing _ refl) none)

pub positions_of-returns-in-Compose-clause-first : goal.positions_of-returns-in-Compose-clause-first
positions_of-returns-in-Compose-clause-first t c =
    let first = rw (c.deref-in-Compose.ensures, c.deref-in-Compose-2.ensures)
    at c.positions_of_first-in-Compose.ensures.first in
    rw c.in-Compose.is (IfErr-weaker c.positions_of_first-in-Compose.result _ _
    (λ place some columns standing. some columns
    (derived_columns (type_of columns (plain_of c.in-Compose.first.value.shape))) standing
    standing _) first)

pub positions_of-returns-in-Iter-clause-none : goal.positions_of-returns-in-Iter-clause-none
positions_of-returns-in-Iter-clause-none t c =
    let kept = rw c.deref-in-Iter.ensures at c.positions_of.ensures.none in
    let small = rw c.deref-in-Iter.ensures at c.positions_of.ensures.few in
    rw c.in-Iter.is (on_ok_both c.positions_of.result (λ none few columns standing.
    few_over _ columns bound c.in-Iter.inner.value (none columns bound) few.1) kept small)

pub positions_of-returns-in-Iter-clause-first : goal.positions_of-returns-in-Iter-clause-first
positions_of-returns-in-Iter-clause-first t c =
    let found = rw c.deref-in-Iter.ensures at c.positions_of.ensures.first in
    rw c.in-Iter.is (IfErr-weaker c.positions_of.result _ _ (λ place some columns standing.
    one_inside has_many_positions _ columns bound c.in-Iter.inner.value place
    (some columns bound)) found)

pub positions_of-returns-in-Apply-clause-none : goal.positions_of-returns-in-Apply-clause-none
positions_of-returns-in-Apply-clause-none t c =
    let kept = rw c.deref-in-Apply.ensures at c.positions_of-in-Apply.ensures.none in
    let small = rw c.deref-in-Apply.ensures at c.positions_of-in-Apply.ensures.few in
    rw c.in-Apply.is (on_ok_both c.positions_of-in-Apply.result (λ none few columns standing.
    few_over _ columns bound c.in-Apply.inner.value (none columns bound) few.1) kept small)

pub positions_of-returns-in-Apply-clause-first : goal.positions_of-returns-in-Apply-clause-first
positions_of-returns-in-Apply-clause-first t c =
    let found = rw c.deref-in-Apply.ensures at c.positions_of-in-Apply.ensures.first in
    rw c.in-Apply.is
    (IfErr-weaker c.positions_of-in-Apply.result _ _ (λ place some columns standing.
    one_inside has_many_positions _ columns bound c.in-Apply.inner.value place
    (some columns bound)) found)

pub positions_of-returns-in-Collect-clause-none : goal.positions_of-returns-in-Collect-clause-none
positions_of-returns-in-Collect-clause-none t c =
    let none = rw (c.deref-in-Collect.ensures) at c.positions_of_rate.ensures.none in
    rw c.in-Collect.is (on_ok_weaker c.positions_of_rate.result
    (λ few columns standing. few columns _ refl) none)

pub positions_of-returns-in-Collect-clause-first : goal.positions_of-returns-in-Collect-clause-first
positions_of-returns-in-Collect-clause-first t c =
    let first = rw (c.deref-in-Collect.ensures) at c.positions_of_rate.ensures.first in
    rw c.in-Collect.is (IfErr-weaker c.positions_of_rate.result _ _
    (λ place some columns standing. some columns _ refl refl) first)
