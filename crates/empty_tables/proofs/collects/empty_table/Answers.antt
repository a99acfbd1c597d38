use Rattle.std.proofs.Common.{subst, sym}
use Rattle.item_schema.specs.Layout.{Layout}
use Rattle.predicate_cells.specs.Cells.{AllFit}
use Rattle.query_model.specs.Queries.{plain_of}
use Rattle.query_model.specs.Rules.{free}
use Rattle.query_model.specs.Sizes.{predicates_of}
use Rattle.query_model.specs.declared.query.Query.{Query}
use Rattle.empty_tables.proofs.Asked.{can_be_asked}
use Rattle.empty_tables.proofs.Fitting.{all_fit}
use Rattle.empty_tables.proofs.collects.empty_table.Goals as goal

pub cells_of-requires : goal.cells_of-requires
cells_of-requires c =
    let on = c.args.query.now in
    subst (λ (layout : Layout). AllFit layout.columns
    (predicates_of (plain_of c.main.result.now.shape))) (sym c.schema.ensures.schema)
    (subst (λ (q : Query). AllFit on.layout.columns (predicates_of (plain_of q.shape)))
    (sym c.main.ensures.main)
    (all_fit free on.layout.columns (plain_of on.main.shape) c.main.ensures.checked.clear))

pub empty_in-requires : goal.empty_in-requires
empty_in-requires c =
    can_be_asked c.in-Ok.cells c.schema.result.now c.args.query.now.layout c.main.result.now
    c.main-in-Ok.result.now c.args.query.now.main c.in-Ok.ensures.layout c.schema.ensures.schema
    c.in-Ok.ensures.members c.main.ensures.main c.main-in-Ok.ensures.main
    c.main.ensures.checked.clear
