-- For the prover. A node over two operands, as it is written.
use Rattle.language_base.specs.declared.span.Span.{Span}
use Rattle.query_syntax.specs.Plain.{plain_expression, plain_query}
use Rattle.query_syntax.specs.Queries as q
use Rattle.query_resolver.specs.declared.shapes.Joint.{Joint}
use Rattle.query_resolver.specs.declared.shapes.Joint.TheVariants.{Choice, Split, Combine}
use Rattle.query_resolver.specs.declared.shapes.Pair.{Pair}

-- the node, at a place
abbrev pub joint_node : Joint → Span → q.Query → q.Query → q.Query
joint_node Choice span f g = q.or f g span
joint_node (Split value) span f g = q.split f g (plain_expression value.now) span
joint_node (Combine value) span f g = q.combine f g (plain_expression value.now) span

-- the node by its parts
abbrev pub pair_node : Pair → q.Query
pair_node pair =
    joint_node pair.joint pair.span (plain_query pair.left.now) (plain_query pair.right.now)
