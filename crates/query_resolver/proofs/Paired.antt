-- A query of two operands on one stream, in a scope: its nodes, and what it is resolved to.
use Rattle.std.proofs.Common.{◌≡◌, ◌+◌, List, Result, ap, refl, ◌∙◌}
use Rattle.std.specs.Result.{IfErr, IfOk}
use Rattle.item_schema.specs.declared.column.Column.{Column}
use Rattle.language_base.specs.declared.span.Span.{Span}
use Rattle.query_lets.specs.Places.{lets_of, query_of, unfolded_at, unfolded_of}
use Rattle.query_lets.specs.Sizes.{nodes_of}
use Rattle.query_lets.specs.Unfolded.{Binding, bindings_of, replaced}
use Rattle.query_lets.specs.declared.scope.Scope.{Scope}
use Rattle.query_syntax.specs.Plain.{plain_query}
use Rattle.query_syntax.specs.Queries as q
use Rattle.query_resolver.proofs.FromOperands.{first_of_two, joint_operands, second_of_two}
use Rattle.query_resolver.proofs.FromOperands.{two_made}
use Rattle.query_resolver.proofs.FromOperands.{two_refused}
use Rattle.query_resolver.specs.Joints.{joint_node, pair_node}
use Rattle.query_resolver.specs.Resolutions.{IsMade, IsMadeOfTwo, IsRefused, IsRefusedOverTwo}
use Rattle.query_resolver.specs.Resolved.{Nesting}
use Rattle.query_resolver.specs.declared.query_types.Typed.{Typed}
use Rattle.query_resolver.specs.declared.shapes.Joint.{Joint}
use Rattle.query_resolver.specs.declared.shapes.Joint.TheVariants.{Choice, Split, Combine}
use Rattle.query_resolver.specs.declared.shapes.Pair.{Pair}
use Rattle.query_resolver.specs.declared.stop.CheckStop.{CheckStop}

-- one node more than those of its operands
joint_nodes : (joint : Joint) (span : Span) (f g : q.Query)
    → nodes_of (joint_node joint span f g) ≡ nodes_of f + nodes_of g + 1
joint_nodes Choice span f g = refl
joint_nodes (Split value) span f g = refl
joint_nodes (Combine value) span f g = refl

-- names are replaced in its operands
joint_replaced : (bindings : List Binding) (joint : Joint) (span : Span) (f g : q.Query)
    → replaced bindings (joint_node joint span f g)
    ≡ joint_node joint span (replaced bindings f) (replaced bindings g)
joint_replaced bindings Choice span f g = refl
joint_replaced bindings (Split value) span f g = refl
joint_replaced bindings (Combine value) span f g = refl

-- the operands in a scope, where names are replaced
abbrev pub first_of : Scope → Pair → q.Query
first_of scope pair = unfolded_at scope (plain_query pair.left.now)

abbrev pub second_of : Scope → Pair → q.Query
second_of scope pair = unfolded_at scope (plain_query pair.right.now)

module _ (scope : Scope) (pair : Pair) (is : query_of scope ≡ pair_node pair) where
  -- the nodes of a scope's query
  pub pair_nodes : nodes_of (query_of scope)
      ≡ nodes_of (plain_query pair.left.now) + nodes_of (plain_query pair.right.now) + 1
  pair_nodes = ap nodes_of is
      ∙ joint_nodes pair.joint pair.span (plain_query pair.left.now) (plain_query pair.right.now)

  unfolded_pair : unfolded_of scope
      ≡ joint_node pair.joint pair.span (first_of scope pair) (second_of scope pair)
  unfolded_pair = ap (unfolded_at scope) is
      ∙ joint_replaced (bindings_of (lets_of scope)) pair.joint pair.span
      (plain_query pair.left.now) (plain_query pair.right.now)

  module _ (nesting : Nesting) (columns : List Column) where
    -- it is refused where its first operand is
    pub pair_first : (stop : CheckStop) → IsRefused nesting columns (first_of scope pair) stop
        → IsRefused nesting columns (unfolded_of scope) stop
    pair_first stop refused =
        let f = first_of scope pair in
        let g = second_of scope pair in
        rw unfolded_pair (joint_operands nesting columns f g pair.joint pair.span stop
        (first_of_two nesting columns f g stop refused))

    -- and after that where its second is
    module _ (one : Typed) (is_one : IsMade nesting columns (first_of scope pair) one) where
      pub pair_second : (stop : CheckStop) → IsRefused nesting columns (second_of scope pair) stop
          → IsRefused nesting columns (unfolded_of scope) stop
      pair_second stop refused =
          let f = first_of scope pair in
          let g = second_of scope pair in
          rw unfolded_pair (joint_operands nesting columns f g pair.joint pair.span stop
          (second_of_two nesting columns f g one is_one stop refused))

      -- else it is as its node is over both
      module _ (other : Typed) (is_other : IsMade nesting columns (second_of scope pair) other)
          (result : Result Typed CheckStop) where
        pub pair_made : IfOk result (IsMadeOfTwo (joint_node pair.joint pair.span) one other)
            → IfOk result (IsMade nesting columns (unfolded_of scope))
        pair_made made =
            rw unfolded_pair (two_made nesting columns (first_of scope pair) (second_of scope pair)
            one other is_one is_other (joint_node pair.joint pair.span) result made)

        pub pair_refused : IfErr result
            (IsRefusedOverTwo (joint_node pair.joint pair.span) one other)
            → IfErr result (IsRefused nesting columns (unfolded_of scope))
        pair_refused refused = rw unfolded_pair (two_refused nesting columns (first_of scope pair)
            (second_of scope pair) one other is_one is_other
            (joint_node pair.joint pair.span) result refused)
