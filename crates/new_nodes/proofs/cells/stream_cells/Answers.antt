use Rattle.std.proofs.Common.{None, Some, sym, subst}
use Rattle.item_schema.specs.Layout.{Layout}
use Rattle.predicate_cells.specs.Cells.{AllFit, Partition}
use Rattle.query_model.specs.declared.query.Query.{Query}
use Rattle.query_model.specs.Queries.{plain_of}
use Rattle.query_model.specs.Rules.{free}
use Rattle.query_model.specs.Sizes.{predicates_of}
use Rattle.query_model.specs.Members.{HaveSameMembers}
use Rattle.eval_nodes.specs.Streams.{CanBeMade}
use Rattle.eval_nodes.proofs.Served.{all_fit, served, without_collect}
use Rattle.new_nodes.proofs.cells.stream_cells.Goals as goal

pub returns-then-has_no_collect-clause-made : goal.returns-then-has_no_collect-clause-made
returns-then-has_no_collect-clause-made c =
    subst (λ (q : Query). CanBeMade None (plain_of q.shape)) c.main-query.ensures.main
    (without_collect (plain_of c.main-query.result.now.shape)
    (c.has_no_collect.ensures.0 c.if-has_no_collect.true))

pub cells_of-requires : goal.cells_of-requires
cells_of-requires c =
    let on = c.args.checked.now in
    subst (λ (layout : Layout). AllFit layout.columns
    (predicates_of (plain_of c.main-query.result.now.shape)))
    (sym c.schema.ensures.schema)
    (subst (λ (q : Query). AllFit on.layout.columns (predicates_of (plain_of q.shape)))
    (sym c.main-query.ensures.main)
    (all_fit free on.layout.columns (plain_of on.main.shape) c.main-query.ensures.checked.clear))

pub returns-in_ok-new-in-Ok-clause-made : goal.returns-in_ok-new-in-Ok-clause-made
returns-in_ok-new-in-Ok-clause-made c =
    let on = c.args.checked.now in
    let q = plain_of on.main.shape in
    let members : HaveSameMembers c.in-Ok.cells.preds (predicates_of q) =
    subst
    (λ (query : Query). HaveSameMembers c.in-Ok.cells.preds (predicates_of (plain_of query.shape)))
    c.main-query.ensures.main c.in-Ok.ensures.members in
    subst (λ (cells : Partition). CanBeMade (Some cells) q) (sym c.in_ok-new-in-Ok.ensures.ok)
    (served free on.layout.columns c.in-Ok.cells q c.main-query.ensures.checked.clear
    c.main-query.ensures.checked.small.positions (λ pred there. (members pred).1 there))
