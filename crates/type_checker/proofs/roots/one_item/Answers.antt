use Rattle.std.proofs.Common.{refl}
use Rattle.std.proofs.lemmas.Result.{err_from_is_err_and}
use Rattle.predicates.specs.Plain.{plain_of}
use Rattle.query_model.specs.Queries.{atom}
use Rattle.type_checker.proofs.Ruled.{broken_by, kept_by, on_same}
use Rattle.type_checker.proofs.roots.one_item.Goals as goal

pub returns-in_err-keep-clause-refused : goal.returns-in_err-keep-clause-refused
returns-in_err-keep-clause-refused c =
    let err = err_from_is_err_and c.from_residual.result c.from_residual.ensures.1 in
    rw (err.1, err.2) (λ value.
    broken_by c.args.cells.now.value.layout.columns (atom (plain_of c.args.pred.now) value)
    c.empty_rule.result
    (on_same _ _ (atom (plain_of c.args.pred.now) value) c.empty_rule.result c.as_ref.ensures
    (λ standing. c.empty_rule.ensures standing value)) refl c.args.span _
    c.in_err-keep.ensures.refused)

pub returns-clause-kept : goal.returns-clause-kept
returns-clause-kept c = λ value.
    kept_by c.args.cells.now.value.layout.columns (atom (plain_of c.args.pred.now) value)
    c.empty_rule.result
    (on_same _ _ (atom (plain_of c.args.pred.now) value) c.empty_rule.result c.as_ref.ensures
    (λ standing. c.empty_rule.ensures standing value)) _ c.in_ok-keep.ensures.kept
    c.in_ok-one.ensures
