use Rattle.std.proofs.Common.{◌∙◌, sym, subst}
use Rattle.predicate_cells.specs.Cells.{Partition}
use Rattle.query_model.specs.Queries.{plain_of}
use Rattle.query_resolver.specs.Findings.{CanBeAsked}
use Rattle.type_checker.proofs.Asked.{asked_values, values_fit}
use Rattle.type_checker.proofs.words.cells_between.Goals as goal

pub values_of-requires : goal.values_of-requires
values_of-requires c = rw c.schema.ensures c.requires.types.0

pub cells_of-requires : goal.cells_of-requires
cells_of-requires c =
    let made = rw c.schema.ensures at c.in_ok-values.ensures in
    values_fit _ (plain_of c.args.left.now.shape) (plain_of c.args.right.now.shape)
    _ c.requires made

pub returns-in-Ok-clause-asked : goal.returns-in-Ok-clause-asked
returns-in-Ok-clause-asked c =
    let made = rw c.schema.ensures at c.in_ok-values.ensures in
    subst (λ (p : Partition). CanBeAsked p (plain_of c.args.right.now.shape))
    (sym c.in_ok-new-in-Ok.ensures.ok)
    (asked_values _ (plain_of c.args.left.now.shape) (plain_of c.args.right.now.shape) _ c.requires
    (c.in-Ok.ensures.layout ∙ made) c.in-Ok.ensures.members)
