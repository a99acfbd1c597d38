use Rattle.std.proofs.Common.{◌≡◌, None, subst, sym}
use Rattle.std.proofs.lemmas.Result.{err_from_is_err_and}
use Rattle.predicate_cells.specs.Cells.{Partition}
use Rattle.query_model.specs.Queries.{plain_of}
use Rattle.query_model.specs.Rules.{free}
use Rattle.query_model.specs.declared.query.Query.{Query}
use Rattle.query_resolver.specs.Findings.{CanBeAsked}
use Rattle.type_checker.specs.Breaches.{IsBrokenBy}
use Rattle.type_checker.specs.WordRules.{FirstBroken}
use Rattle.type_checker.specs.declared.word_stop.WordStop.{WordStop}
use Rattle.query_resolver.specs.Findings.{nodes_at}
use Rattle.type_checker.proofs.verdict.keep_words_over.Goals as goal

-- what is broken over cells that are shared
broken_on : (shared cells : Partition) → shared ≡ cells → (query : Query) (stop : WordStop)
    → IsBrokenBy (nodes_at shared.layout.columns free query) stop
    → IsBrokenBy (nodes_at cells.layout.columns free query) stop
broken_on shared cells same query stop broken =
    subst (λ (p : Partition). IsBrokenBy (nodes_at p.layout.columns free query) stop) same broken

pub keep_words-requires : goal.keep_words-requires
keep_words-requires c =
    subst (λ (p : Partition). CanBeAsked p (plain_of c.args.query.now.shape))
    (sym c.in_ok-cells.ensures) c.requires

pub returns-in_err-keep_words-clause-refused : goal.returns-in_err-keep_words-clause-refused
returns-in_err-keep_words-clause-refused c =
    let err = err_from_is_err_and c.from_residual-in_err-keep_words.result
    c.from_residual-in_err-keep_words.ensures.1 in
    rw (err.1, err.2)
    (broken_on _ _ c.in_ok-cells.ensures c.args.query.now _ c.in_err-keep_words.ensures.refused)

pub returns-clause-kept : goal.returns-clause-kept
returns-clause-kept c =
    subst (λ (p : Partition). FirstBroken (nodes_at p.layout.columns free c.args.query.now) None)
    c.in_ok-cells.ensures c.in_ok-keep_words.ensures.kept
