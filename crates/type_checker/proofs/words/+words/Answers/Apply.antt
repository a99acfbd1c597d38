-- An application.
use Rattle.std.proofs.Common.{rules}
use Rattle.std.proofs.lemmas.Result.{on_ok_weaker}
use Rattle.query_model.specs.Queries as q
use Rattle.query_model.specs.Queries.{plain_of}
use Rattle.query_model.specs.declared.query.Shape.TheViews.{the_lemmas}
use Rattle.expressions.specs.Expressions as values
use Rattle.query_resolver.specs.Findings.{places_in}
use Rattle.query_resolver.specs.Nodes.{with_one}
use Rattle.type_checker.specs.Standings.{standing_of}
use Rattle.type_checker.proofs.Asked.{asked_apply, asked_as, asked_of}
use Rattle.type_checker.proofs.Answered.{answered_err}
use Rattle.type_checker.proofs.Walked.{kept_at, stopped_in}
use Rattle.type_checker.proofs.words.+words.Goals as goal

pub keep_words-keep_words-requires : goal.keep_words-keep_words-requires
keep_words-keep_words-requires t c =
    let cells = c.args.cells.now.value in
    let can = asked_apply cells _ _ (asked_as cells _ _ c.in-Apply.is c.requires) in
    (search (rules, the_lemmas), asked_of cells _ _ c.deref-in-Apply.ensures can)

pub keep_words-returns-in-Apply-clause-kept : goal.keep_words-returns-in-Apply-clause-kept
keep_words-returns-in-Apply-clause-kept t c =
    let inner = c.in-Apply.inner.value in
    let node = q.apply (plain_of inner.shape) (values.plain_of c.in-Apply.field-1) in
    let kept = rw c.deref-in-Apply.ensures at c.keep_words.ensures.kept in
    rw c.in-Apply.is (on_ok_weaker c.keep_words.result (λ none.
    kept_at c.args.cells.now.value.layout.columns (standing_of c.args.standing) node
    (with_one (places_in inner) c.args.query.now.span) none tt) kept)

pub keep_words-returns-in-Apply-clause-positions : goal.keep_words-returns-in-Apply-clause-positions
keep_words-returns-in-Apply-clause-positions t c =
    rw c.in-Apply.is (rw c.deref-in-Apply.ensures at c.keep_words.ensures.positions)

pub keep_words-returns-in-Apply-clause-refused : goal.keep_words-returns-in-Apply-clause-refused
keep_words-returns-in-Apply-clause-refused t c =
    let inner = c.in-Apply.inner.value in
    let node = q.apply (plain_of inner.shape) (values.plain_of c.in-Apply.field-1) in
    let refused = rw c.deref-in-Apply.ensures at c.keep_words.ensures.refused in
    rw c.in-Apply.is (answered_err _ _ _ refused
    (stopped_in c.args.cells.now.value.layout.columns (standing_of c.args.standing) node
    (with_one (places_in inner) c.args.query.now.span)))
