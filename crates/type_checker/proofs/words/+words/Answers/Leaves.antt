-- A query of one item, and one of none.
use Rattle.std.proofs.Common.{refl}
use Rattle.predicates.specs.Plain as predicates
use Rattle.query_model.specs.Queries as q
use Rattle.query_model.specs.Rates.{rate_of}
use Rattle.rate_expr.specs.FirstLastFollow.{AreSetsOf}
use Rattle.expressions.specs.Expressions as values
use Rattle.type_checker.specs.Breaches.{IsBrokenAt, IsKept}
use Rattle.query_resolver.specs.Nodes.{alone}
use Rattle.type_checker.specs.Standings.{standing_of}
use Rattle.type_checker.proofs.Answered.{answered_err, answered_ok}
use Rattle.type_checker.proofs.Walked.{kept_at, root_kept, root_refused}
use Rattle.type_checker.proofs.words.+words.Goals as goal

pub keep_words-returns-in-Atom-clause-kept : goal.keep_words-returns-in-Atom-clause-kept
keep_words-returns-in-Atom-clause-kept t c =
    let value = values.plain_of c.in-Atom.field-1 in
    let node = q.atom (predicates.plain_of c.in-Atom.pred) value in
    rw c.in-Atom.is
    (root_kept c.args.cells.now.value.layout.columns (standing_of c.args.standing) node
    (alone c.args.query.now.span) refl c.one_item.result
    (answered_ok _ _ (IsKept c.args.cells.now.value.layout.columns node) c.one_item.ensures.kept
    (λ sets given. given value)))

pub keep_words-returns-in-Atom-clause-positions : goal.keep_words-returns-in-Atom-clause-positions
keep_words-returns-in-Atom-clause-positions t c =
    let value = values.plain_of c.in-Atom.field-1 in
    let node = q.atom (predicates.plain_of c.in-Atom.pred) value in
    rw c.in-Atom.is (answered_ok _ _ (λ sets. AreSetsOf sets (rate_of node)) c.one_item.ensures.kept
    (λ sets given. (given value).sets))

pub keep_words-returns-in-Atom-clause-refused : goal.keep_words-returns-in-Atom-clause-refused
keep_words-returns-in-Atom-clause-refused t c =
    let value = values.plain_of c.in-Atom.field-1 in
    let node = q.atom (predicates.plain_of c.in-Atom.pred) value in
    rw c.in-Atom.is
    (root_refused c.args.cells.now.value.layout.columns (standing_of c.args.standing) node
    (alone c.args.query.now.span) refl c.one_item.result
    (answered_err _ _ (IsBrokenAt c.args.cells.now.value.layout.columns node c.args.query.now.span)
    c.one_item.ensures.refused (λ stop given. given value)))

pub keep_words-returns-in-Eps-clause-kept : goal.keep_words-returns-in-Eps-clause-kept
keep_words-returns-in-Eps-clause-kept t c =
    rw c.in-Eps.is (kept_at c.args.cells.now.value.layout.columns (standing_of c.args.standing)
    (q.eps c.in-Eps.field-0) (alone c.args.query.now.span) refl tt)

pub keep_words-returns-in-Eps-clause-positions : goal.keep_words-returns-in-Eps-clause-positions
keep_words-returns-in-Eps-clause-positions t c = rw c.in-Eps.is c.empty.ensures
