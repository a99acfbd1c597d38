use Rattle.std.proofs.Common.{◌≤◌, ◌+◌, [], arith, option_copied, option_map, refl, subst, sym}
use Rattle.std.specs.Rc.{rc_value}
use Rattle.query_model.specs.declared.query.Query.{Query}
use Rattle.query_model.specs.Bounds.{inner_of, width_of}
use Rattle.query_model.specs.Queries.{plain_of}
use Rattle.query_model.specs.Rules.{free, IsClear}
use Rattle.query_model.specs.Sizes.{IsSmall, max_slots}
use Rattle.eval_nodes.specs.Runners.{IsAt}
use Rattle.eval_nodes.specs.Plain.{holding_of}
use Rattle.eval_nodes.specs.Streams.{AreColumnsOf, CanBeMade}
use Rattle.eval_nodes.proofs.Made.{composes_few}
use Rattle.eval_nodes.proofs.Served.{seen_cells}
use Rattle.step_laws.proofs.Carried.{begun}
use Rattle.eval_runner.proofs.initial_state.open.Goals as goal

pub start-requires : goal.start-requires
start-requires c =
    let on = c.args.checked.now in
    let query = c.main-query.result.now in
    let small : IsSmall on.layout.columns (plain_of query.shape) =
    subst (λ (q : Query). IsSmall on.layout.columns (plain_of q.shape))
    (sym c.main-query.ensures.main) c.main-query.ensures.checked.small in
    let few = composes_few (plain_of query.shape) in
    let nodes = small.nodes in
    record {
      standing = free;
      columns = on.layout.columns;
      clear = subst (λ (q : Query). IsClear free on.layout.columns (plain_of q.shape))
          (sym c.main-query.ensures.main) c.main-query.ensures.checked.clear;
      sound = c.in_ok-node.ensures.sound on.layout.columns (seen_cells rc_value
          (λ cells. AreColumnsOf cells on.layout.columns) (option_copied c.as_ref.result)
          c.in_ok-cells.cells c.as_ref.ensures.value c.in_ok-cells.ensures.columns);
      room = omega (arith, few, nodes);
    }

pub returns-in-Ok : goal.returns-in-Ok
returns-in-Ok c =
    let on = c.args.checked.now in
    let columns = seen_cells rc_value (λ cells. AreColumnsOf cells on.layout.columns)
    (option_copied c.as_ref.result) c.in_ok-cells.cells c.as_ref.ensures.value
    c.in_ok-cells.ensures.columns in
    subst (λ (q : Query). IsAt on.layout.columns (plain_of q.shape) []
    (record { node = c.start.new.node; position = 0; answer = c.value_of.result }))
    c.main-query.ensures.main
    (begun free on.layout.columns (plain_of c.main-query.result.now.shape)
    (holding_of c.in_ok-node.node.state)
    (record { node = c.start.new.node; position = 0; answer = c.value_of.result }) c.in-Ok.hit
    (subst (λ (q : Query). IsClear free on.layout.columns (plain_of q.shape))
    (sym c.main-query.ensures.main) c.main-query.ensures.checked.clear)
    (c.in_ok-node.ensures.word on.layout.columns columns)
    (c.in_ok-node.ensures.sound on.layout.columns columns)
    c.in-Ok.ensures.word c.in-Ok.ensures.sound refl c.value_of.ensures)

pub new_node-requires-clause-cells : goal.new_node-requires-clause-cells
new_node-requires-clause-cells c =
    let query = c.main-query.result.now in
    seen_cells rc_value (λ cells. CanBeMade cells (plain_of query.shape))
    (option_copied c.as_ref.result) c.in_ok-cells.cells c.as_ref.ensures.value
    (subst (λ (q : Query). CanBeMade (option_map rc_value c.in_ok-cells.cells) (plain_of q.shape))
    (sym c.main-query.ensures.main) c.in_ok-cells.ensures.made)

pub new_node-requires-clause-small : goal.new_node-requires-clause-small
new_node-requires-clause-small c =
    let query = plain_of c.main-query.result.now.shape in
    let small : IsSmall c.args.checked.now.layout.columns query =
    subst (λ (q : Query). IsSmall c.args.checked.now.layout.columns (plain_of q.shape))
    (sym c.main-query.ensures.main) c.main-query.ensures.checked.small in
    let few : inner_of query + 1 + width_of query ≤ max_slots = small.slots in
    omega (arith, few)
