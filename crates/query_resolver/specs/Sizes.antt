-- Statement. The limits of a program.
use Rattle.std.specs.Prelude.{Bool, false, not, List, nat_le, Option}
use Rattle.language_base.specs.Limits.{max_nodes, max_positions}
use Rattle.language_base.specs.declared.span.Span.{Span}
use Rattle.item_schema.specs.declared.column.Column.{Column}
use Rattle.query_model.specs.Few.{has_few_cells}
use Rattle.query_lets.specs.Sizes.{nodes_of}
use Rattle.query_model.specs.Bounds.{slots_of}
use Rattle.query_model.specs.Queries.{Qre, compose}
use Rattle.query_model.specs.QueryTypes.{derived_columns, type_of}
use Rattle.query_model.specs.Rates.{rate_of}
use Rattle.query_model.specs.Rules.{free}
use Rattle.query_model.specs.Sizes.{max_slots}
use Rattle.query_syntax.specs.Queries.{Query}
use Rattle.rate_expr.specs.Rates.{size_of}
use Rattle.query_resolver.specs.Nodes.{Node, Places, first_where, nodes_in}

-- the query as it is written does not have too many nodes
abbrev pub has_few_nodes : Query → Bool
has_few_nodes tree = nat_le (nodes_of tree) max_nodes

-- the rate of the node has too many positions
abbrev pub has_many_positions : Node → Bool
has_many_positions node = not (nat_le (size_of (rate_of node.query)) max_positions)

-- the query does not have too many slots
abbrev pub has_few_slots : Qre → Bool
has_few_slots query = nat_le (slots_of query) max_slots

-- the node is a composition whose right operand's predicates distinguish too many values of the
-- left one
abbrev pub derives_many_cells : List Column → Qre → Bool
derives_many_cells columns (compose f g) =
    not (has_few_cells (derived_columns (type_of columns f)) g)
derives_many_cells columns _ = false

-- the place of the first node that passes the test
abbrev pub first_node : (Node → Bool) → List Column → Qre → Places → Option Span
first_node is_so columns query places = first_where is_so (nodes_in columns free query places)
