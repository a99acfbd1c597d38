use Rattle.std.proofs.Common.{◌≡◌, ◌≤◌, ◌+◌, ◌∙◌, List, IfOk, Option, Some, length}
use Rattle.std.proofs.Common.{ap, subst, sym, arith}
use Rattle.std.specs.Option.{option_map}
use Rattle.few_parts.specs.Sizes.{IsRecordSize}
use Rattle.query_syntax.specs.Expressions as e
use Rattle.query_syntax.proofs.Records.{shown_record}
use Rattle.query_resolver.specs.Expressions.{expression_over}
use Rattle.query_resolver.specs.Scopes.{HasFittingNumbers, plain_scope}
use Rattle.query_resolver.proofs.Chosen.{all_chosen, no_branches, no_test}
use Rattle.query_resolver.proofs.Parts.{AreResolved, all_left, as_many_left, more_resolved}
use Rattle.query_resolver.proofs.Parts.{none_left}
use Rattle.query_resolver.proofs.Parts.{none_resolved}
use Rattle.expressions.specs.Expressions.{Expressions, choice, plain_of, rec}
use Rattle.expressions.specs.declared.expr.Expr.{Expr, Rec}
use Rattle.expressions.proofs.RecordParts.{rec_of}
use Rattle.query_resolver.proofs.expression.+resolve.Goals as goal

pub choice_over-returns-in_default-clause-made : goal.choice_over-returns-in_default-clause-made
choice_over-returns-in_default-clause-made t c =
    let sides = rw (c.deref.ensures, c.deref-2.ensures, c.in_default.is) at
    c.in_ok-sides.ensures.made in
    no_test (choice c.args.test.now.compare) _ _ _ _ sides

pub choice_over-returns-in_default-2-clause-made : goal.choice_over-returns-in_default-2-clause-made
choice_over-returns-in_default-2-clause-made t c =
    no_branches (choice c.args.test.now.compare) _ _ _ _
    (rw c.in_default-2.is at c.in_ok-branches.ensures.made)

pub choice_over-returns-clause-made : goal.choice_over-returns-clause-made
choice_over-returns-clause-made t c =
    let sides = rw (c.deref.ensures, c.deref-2.ensures, c.in-Some.is) at
    c.in_ok-sides.ensures.made in
    let branches = rw c.in-Some-2.is at c.in_ok-branches.ensures.made in
    all_chosen (choice c.args.test.now.compare) _ _ _ _ _ _ _ _ sides branches

-- a record and its parts
pub expression_over-returns-in-Record-clause-made :
    goal.expression_over-returns-in-Record-clause-made
expression_over-returns-in-Record-clause-made t c =
    subst (λ (tree : e.Expression). IfOk c.record_over.result (λ (found : Option Expr).
    option_map plain_of found ≡ expression_over (plain_scope c.args.scope) tree))
    (sym (shown_record c.args.expression.now c.in-Record.parts c.as_slice.result.now
    c.in-Record.span c.in-Record.is c.as_slice.ensures.parts)) c.record_over.ensures.made

pub record_over-of-requires : goal.record_over-of-requires
record_over-of-requires t c =
    let many : length c.in-Some.made.items ≡ length c.args.parts.now =
    rw c.in-Some.is at c.in_ok-made.ensures.as_many in
    subst IsRecordSize (sym many) c.requires

pub record_over-returns-in-Some-clause-made : goal.record_over-returns-in-Some-clause-made
record_over-returns-in-Some-clause-made t c =
    let made = rw c.in-Some.is at c.in_ok-made.ensures.made in
    ap Some (ap plain_of (ap Rec c.of.ensures) ∙ rec_of c.in-Some.made.items)
    ∙ ap (λ (parts : Option Expressions). option_map rec parts) made

pub record_over-returns-in-Some-clause-numbers : goal.record_over-returns-in-Some-clause-numbers
record_over-returns-in-Some-clause-numbers t c =
    let fit = rw c.in-Some.is at c.in_ok-made.ensures.numbers in
    subst HasFittingNumbers
    (sym (ap plain_of (ap Rec c.of.ensures) ∙ rec_of c.in-Some.made.items)) fit

pub record_over-returns-in-None-clause-made : goal.record_over-returns-in-None-clause-made
record_over-returns-in-None-clause-made t c =
    ap (λ (parts : Option Expressions). option_map rec parts)
    (rw c.in-None.is at c.in_ok-made.ensures.made)

pub all_over-parts-init : goal.all_over-parts-init
all_over-parts-init t c =
    none_resolved (plain_scope c.args.scope) c.args.parts.now c.in_ok-made.made.items
    c.in_ok-made.ensures.items

pub all_over-parts-preserved : goal.all_over-parts-preserved
all_over-parts-preserved t c =
    subst (λ (exprs : List Expr). AreResolved (plain_scope c.args.scope) c.args.parts.now exprs
    (c.parts.part-index + 1))
    (sym c.in_ok-push.ensures.items)
    (more_resolved (plain_scope c.args.scope) c.args.parts.now c.parts.made.items c.parts.part-index
    c.part-item.result c.in-Some.one c.parts-test.true c.part-item.is
    (rw c.in-Some.is at c.in_ok-one.ensures.made)
    (rw c.in-Some.is at c.in_ok-one.ensures.numbers) c.parts.invariant)

pub all_over-returns-in_default-clause-made : goal.all_over-returns-in_default-clause-made
all_over-returns-in_default-clause-made t c =
    none_left (plain_scope c.args.scope) c.args.parts.now c.parts.made.items c.parts.part-index
    c.part-item.result c.parts-test.true c.part-item.is
    (rw c.in_default.is at c.in_ok-one.ensures.made) c.parts.invariant

pub all_over-returns-clause-made : goal.all_over-returns-clause-made
all_over-returns-clause-made t c =
    let end : length c.args.parts.now ≤ c.parts.part-index = omega arith in
    all_left (plain_scope c.args.scope) c.args.parts.now c.parts.made.items c.parts.part-index end
    c.parts.invariant

pub all_over-returns-clause-as_many : goal.all_over-returns-clause-as_many
all_over-returns-clause-as_many t c =
    let end : length c.args.parts.now ≤ c.parts.part-index = omega arith in
    as_many_left (plain_scope c.args.scope) c.args.parts.now c.parts.made.items c.parts.part-index
    end c.parts.invariant

pub all_over-returns-clause-numbers : goal.all_over-returns-clause-numbers
all_over-returns-clause-numbers t c = c.parts.invariant.numbers
