-- A collection: its operand, then its root.
use Rattle.std.proofs.Common.{rules, []}
use Rattle.std.proofs.lemmas.Result.{err_from_is_err_and}
use Rattle.predicates.specs.Plain as predicates
use Rattle.predicates.specs.Predicates.{any}
use Rattle.query_model.specs.Queries as q
use Rattle.query_model.specs.Queries.{plain_of}
use Rattle.query_model.specs.declared.query.Shape.TheViews.{the_lemmas}
use Rattle.rate_expr.specs.Plain as rates
use Rattle.type_checker.specs.Breaches.{IsBrokenAt, IsKept}
use Rattle.query_resolver.specs.Findings.{places_in}
use Rattle.query_resolver.specs.Nodes.{with_one}
use Rattle.type_checker.specs.Standings.{standing_of}
use Rattle.type_checker.proofs.Asked.{asked_as, asked_collect, asked_of, asked_rate}
use Rattle.type_checker.proofs.Answered.{answered_err, answered_ok}
use Rattle.type_checker.proofs.Walked.{root_kept, root_refused, stopped_in}
use Rattle.type_checker.proofs.words.+words.Goals as goal

pub keep_words-keep_collection-requires : goal.keep_words-keep_collection-requires
keep_words-keep_collection-requires t c =
    let cells = c.args.cells.now.value in
    let can = asked_as cells _ _ c.in-Collect.is c.requires in (
      search (rules, the_lemmas),
      (
        asked_of cells _ _ c.deref-in-Collect.ensures (asked_collect cells _ _ _ _ can),
        (can.few.1, asked_rate cells _ _ _ _ can),
      ),
    )

pub keep_words-returns-in-Collect-clause-kept : goal.keep_words-returns-in-Collect-clause-kept
keep_words-returns-in-Collect-clause-kept t c =
    let kept = rw c.deref-in-Collect.ensures at c.keep_collection.ensures.kept in
    rw c.in-Collect.is (kept (standing_of c.args.standing) c.in-Collect.field-0
    (predicates.plain_of c.in-Collect.field-1))

pub keep_words-returns-in-Collect-clause-positions :
    goal.keep_words-returns-in-Collect-clause-positions
keep_words-returns-in-Collect-clause-positions t c =
    rw c.in-Collect.is c.keep_collection.ensures.positions

pub keep_words-returns-in-Collect-clause-refused : goal.keep_words-returns-in-Collect-clause-refused
keep_words-returns-in-Collect-clause-refused t c =
    let refused = rw c.deref-in-Collect.ensures at c.keep_collection.ensures.refused in
    rw c.in-Collect.is (refused (standing_of c.args.standing) c.in-Collect.field-0
    (predicates.plain_of c.in-Collect.field-1))

-- its root, after its operand
pub keep_collection-returns-in_err-keep_words-clause-refused :
    goal.keep_collection-returns-in_err-keep_words-clause-refused
keep_collection-returns-in_err-keep_words-clause-refused t c =
    let err = err_from_is_err_and c.from_residual.result c.from_residual.ensures.1 in
    let rate = rates.plain_of c.args.rate.now in
    rw (err.1, err.2) (λ standing key sync.
    stopped_in c.args.cells.now.value.layout.columns standing
    (q.collect key sync rate (plain_of c.args.operand.now.shape))
    (with_one (places_in c.args.operand.now) c.args.span) _ c.in_err-keep_words.ensures.refused)

pub keep_collection-returns-clause-kept : goal.keep_collection-returns-clause-kept
keep_collection-returns-clause-kept t c = λ standing key sync.
    let node = q.collect key sync (rates.plain_of c.args.rate.now)
    (plain_of c.args.operand.now.shape) in
    root_kept c.args.cells.now.value.layout.columns standing node
    (with_one (places_in c.args.operand.now) c.args.span)
    c.in_ok-keep_words.ensures.kept c.collected.result
    (answered_ok _ _ (IsKept c.args.cells.now.value.layout.columns node) c.collected.ensures.kept
    (λ sets given. given key sync (plain_of c.args.operand.now.shape)))

pub keep_collection-returns-clause-positions : goal.keep_collection-returns-clause-positions
keep_collection-returns-clause-positions t c =
    answered_ok c.collected.result _ _ c.collected.ensures.kept
    (λ sets given. (given [] any (plain_of c.args.operand.now.shape)).sets)

pub keep_collection-returns-clause-refused : goal.keep_collection-returns-clause-refused
keep_collection-returns-clause-refused t c = λ standing key sync.
    let node = q.collect key sync (rates.plain_of c.args.rate.now)
    (plain_of c.args.operand.now.shape) in
    root_refused c.args.cells.now.value.layout.columns standing node
    (with_one (places_in c.args.operand.now) c.args.span)
    c.in_ok-keep_words.ensures.kept c.collected.result
    (answered_err _ _ (IsBrokenAt c.args.cells.now.value.layout.columns node c.args.span)
    c.collected.ensures.refused (λ stop given. given key sync (plain_of c.args.operand.now.shape)))
