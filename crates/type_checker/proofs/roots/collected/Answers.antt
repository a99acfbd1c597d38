use Rattle.std.proofs.Common.{refl, subst, sym}
use Rattle.std.proofs.lemmas.Result.{err_from_is_err_and}
use Rattle.predicate_cells.specs.Cells.{Partition}
use Rattle.query_model.specs.Queries.{collect}
use Rattle.rate_expr.specs.Plain.{plain_of}
use Rattle.rate_expr.specs.Rates.{preds_of}
use Rattle.query_resolver.specs.Findings.{AreAmong}
use Rattle.type_checker.proofs.Ruled.{broken_by, kept_by, on_same}
use Rattle.type_checker.proofs.roots.collected.Goals as goal

pub met_rule-requires : goal.met_rule-requires
met_rule-requires c =
    subst (λ (cells : Partition). AreAmong cells (preds_of (plain_of c.args.rate.now)))
    (sym c.as_ref.ensures) c.requires.members

pub returns-in_err-keep-clause-refused : goal.returns-in_err-keep-clause-refused
returns-in_err-keep-clause-refused c =
    let err = err_from_is_err_and c.from_residual.result c.from_residual.ensures.1 in
    rw (err.1, err.2) (λ key sync f.
    broken_by c.args.cells.now.value.layout.columns (collect key sync (plain_of c.args.rate.now) f)
    c.met_rule.result
    (on_same _ _ (collect key sync (plain_of c.args.rate.now) f) c.met_rule.result c.as_ref.ensures
    (λ standing. c.met_rule.ensures)) refl c.args.span _ c.in_err-keep.ensures.refused)

pub returns-clause-kept : goal.returns-clause-kept
returns-clause-kept c = λ key sync f.
    kept_by c.args.cells.now.value.layout.columns (collect key sync (plain_of c.args.rate.now) f)
    c.met_rule.result
    (on_same _ _ (collect key sync (plain_of c.args.rate.now) f) c.met_rule.result c.as_ref.ensures
    (λ standing. c.met_rule.ensures)) _ c.in_ok-keep.ensures.kept c.in_ok-of.ensures.sets
