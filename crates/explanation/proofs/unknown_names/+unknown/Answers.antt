use Rattle.std.proofs.Common.{◌≡◌, ◌≤◌, None, Some, length, refl, subst, sym, arith, rules}
use Rattle.query_syntax.specs.Expressions as e
use Rattle.query_syntax.specs.Plain.{plain_expression}
use Rattle.query_syntax.proofs.Records.{shown_record}
use Rattle.explanation.specs.Scopes.{plain_scope}
use Rattle.explanation.specs.Unknown.{unknown_name, unknown_part}
use Rattle.explanation.proofs.SearchedParts.{found_here, none_found, passed}
use Rattle.explanation.proofs.unknown_names.+unknown.Goals as goal

pub unknown_name-returns-in-Record : goal.unknown_name-returns-in-Record
unknown_name-returns-in-Record t c =
    subst
    (λ (tree : e.Expression). c.unknown_part.result ≡ unknown_name (plain_scope c.args.scope) tree)
    (sym (shown_record c.args.expression.now c.in-Record.parts c.as_slice.result.now
    c.in-Record.span c.in-Record.is c.as_slice.ensures.parts)) c.unknown_part.ensures

pub unknown_part-parts-preserved : goal.unknown_part-parts-preserved
unknown_part-parts-preserved t c =
    let none : None
    ≡ unknown_name (plain_scope c.args.scope) (plain_expression c.part-item.result) =
    first_of (cc, search rules) in
    passed (unknown_name (plain_scope c.args.scope)) (unknown_part (plain_scope c.args.scope)) refl
    (λ part others. refl) c.args.parts.now c.parts.part-index
    c.part-item.result c.parts-test.true c.part-item.is none c.parts.invariant

pub unknown_part-returns-in-Some : goal.unknown_part-returns-in-Some
unknown_part-returns-in-Some t c =
    let here : Some c.in-Some.culprit
    ≡ unknown_name (plain_scope c.args.scope) (plain_expression c.part-item.result) =
    first_of (cc, search rules) in
    found_here (unknown_name (plain_scope c.args.scope)) (unknown_part (plain_scope c.args.scope))
    refl (λ part others. refl) c.args.parts.now c.parts.part-index
    c.part-item.result c.parts-test.true c.part-item.is c.in-Some.culprit here c.parts.invariant

pub unknown_part-returns : goal.unknown_part-returns
unknown_part-returns t c =
    let end : length c.args.parts.now ≤ c.parts.part-index = omega arith in
    none_found (unknown_name (plain_scope c.args.scope)) (unknown_part (plain_scope c.args.scope))
    refl (λ part others. refl) c.args.parts.now c.parts.part-index end c.parts.invariant
