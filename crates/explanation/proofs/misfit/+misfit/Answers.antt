use Rattle.std.proofs.Common.{◌≡◌, ◌≤◌, None, Some, length, refl, subst, sym, arith, rules}
use Rattle.query_syntax.specs.Expressions as e
use Rattle.query_syntax.specs.Plain.{plain_expression}
use Rattle.query_syntax.proofs.Records.{shown_record}
use Rattle.explanation.specs.Misfits.{misfit_read, misfit_part}
use Rattle.explanation.proofs.SearchedParts.{found_here, none_found, passed}
use Rattle.explanation.proofs.misfit.+misfit.Goals as goal

pub misfit_read-returns-in-Record : goal.misfit_read-returns-in-Record
misfit_read-returns-in-Record t c =
    subst (λ (tree : e.Expression). c.misfit_part.result ≡ misfit_read c.args.columns.now tree)
    (sym (shown_record c.args.expression.now c.in-Record.parts c.as_slice.result.now
    c.in-Record.span c.in-Record.is c.as_slice.ensures.parts)) c.misfit_part.ensures

pub misfit_part-parts-preserved : goal.misfit_part-parts-preserved
misfit_part-parts-preserved t c =
    let none : None ≡ misfit_read c.args.columns.now (plain_expression c.part-item.result) =
    first_of (cc, search rules) in
    passed (misfit_read c.args.columns.now) (misfit_part c.args.columns.now) refl
    (λ part others. refl) c.args.parts.now c.parts.part-index
    c.part-item.result c.parts-test.true c.part-item.is none c.parts.invariant

pub misfit_part-returns-in-Some : goal.misfit_part-returns-in-Some
misfit_part-returns-in-Some t c =
    let here : Some c.in-Some.culprit
    ≡ misfit_read c.args.columns.now (plain_expression c.part-item.result) =
    first_of (cc, search rules) in
    found_here (misfit_read c.args.columns.now) (misfit_part c.args.columns.now) refl
    (λ part others. refl) c.args.parts.now c.parts.part-index
    c.part-item.result c.parts-test.true c.part-item.is c.in-Some.culprit here c.parts.invariant

pub misfit_part-returns : goal.misfit_part-returns
misfit_part-returns t c =
    let end : length c.args.parts.now ≤ c.parts.part-index = omega arith in
    none_found (misfit_read c.args.columns.now) (misfit_part c.args.columns.now) refl
    (λ part others. refl) c.args.parts.now c.parts.part-index end c.parts.invariant
