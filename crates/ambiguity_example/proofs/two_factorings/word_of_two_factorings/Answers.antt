use Rattle.std.proofs.Common.{[], sym, ap, ◌∙◌}
use Rattle.rate_expr.specs.Sets.{Sets}
use Rattle.ambiguity_check.specs.Factorings.{BeginsFactors, Factors, EndsFactors}
use Rattle.ambiguity_check.specs.Overlaps.{IsInRows}
use Rattle.ambiguity_check.specs.Walks.{IsIn}
use Rattle.ambiguity_example.proofs.Deciding.{not_both}
use Rattle.ambiguity_example.proofs.Factored.{empty_factored, none_factored, walk_factored}
use Rattle.ambiguity_example.proofs.MetItems.{walk_meet}
use Rattle.ambiguity_example.specs.Met.{HasItem}
use Rattle.ambiguity_example.proofs.two_factorings.word_of_two_factorings.Goals as goal

pub returns-then-nullable : goal.returns-then-nullable
returns-then-nullable c = λ r of_r. rw c.in_ok-of_no_items.ensures
    (empty_factored c.args.nfa.now.cells.layout.columns c.args.nfa.now.sets []
    (EndsFactors c.args.nfa.now.sets) (λ node. (λ e. e, λ e. e)) r of_r
    (sym (ap (λ (sets : Sets). sets.nullable) c.positions-positions.ensures)
    ∙ sym c.nullable.ensures ∙ c.if-nullable.true))

pub returns-in_default : goal.returns-in_default
returns-in_default c = λ r of_r.
    let ended = rw c.positions-positions.ensures at c.ends_of.ensures in
    let none = rw c.in_ok-factorings.ensures.sets at (rw c.in_default.is at c.in_ok-walk.ensures) in
    none_factored c.args.nfa.now.cells.layout.columns c.args.nfa.now.sets _ (IsIn c.ends_of.result)
    ended r of_r c.in_ok-factorings.ensures.rows
    (λ empty. not_both c.nullable.result (c.nullable.ensures
    ∙ ap (λ (sets : Sets). sets.nullable) c.positions-positions.ensures
    ∙ empty) c.if-nullable.false)
    none

pub example_of-requires-clause-meet : goal.example_of-requires-clause-meet
example_of-requires-clause-meet c =
    let shortest = rw c.in_ok-factorings.ensures.sets at
    (rw c.in-Some.is at c.in_ok-walk.ensures) in
    rw c.deref.ensures.value (walk_meet (BeginsFactors c.args.nfa.now.sets)
    (Factors c.args.nfa.now.sets) (IsInRows c.in_ok-factorings.factorings.rows.items)
    (IsIn c.ends_of.result)
    (HasItem c.args.nfa.now.cells.layout.columns (λ _. c.args.nfa.now.sets)
    (λ _. c.args.nfa.now.sets))
    (λ node met. (c.in_ok-factorings.ensures.rows node.left node.right).0 met) c.in-Some.walk.items
    shortest.walk)

pub returns : goal.returns
returns c = λ r of_r.
    let ended = rw c.positions-positions.ensures at c.ends_of.ensures in
    let shortest = rw c.in_ok-factorings.ensures.sets at
    (rw c.in-Some.is at c.in_ok-walk.ensures) in
    walk_factored c.args.nfa.now.cells.layout.columns c.args.nfa.now.sets _
    (IsIn c.ends_of.result) ended r of_r c.in_ok-factorings.ensures.rows
    (λ empty. not_both c.nullable.result (c.nullable.ensures
    ∙ ap (λ (sets : Sets). sets.nullable) c.positions-positions.ensures
    ∙ empty) c.if-nullable.false)
    c.in-Some.walk.items _ shortest (rw c.deref.ensures.value at c.in_ok-example_of.ensures.meet)
    (rw c.deref.ensures.value at c.in_ok-example_of.ensures.first)
    (rw c.deref.ensures.value at c.in_ok-example_of.ensures.second)
