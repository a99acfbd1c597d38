-- The first node of a query that is so, by those of its operands.
use Rattle.std.proofs.Common.{◌≡◌, Bool, cond, List, [], ◌∷◌, ◌++◌, Option, Some, None, refl, ap}
use Rattle.std.proofs.Common.{◌∙◌}
use Rattle.std.specs.Option.{option_or}
use Rattle.item_schema.specs.declared.column.Column.{Column}
use Rattle.language_base.specs.declared.span.Span.{Span}
use Rattle.query_model.specs.Rules.{Standing}
use Rattle.query_model.specs.declared.query.Query.{Query}
use Rattle.query_resolver.specs.Findings.{first_in, first_over, first_over_two}
use Rattle.query_resolver.specs.Nodes.{Node}
use Rattle.query_resolver.proofs.Placed.{first_before, first_after}
use Rattle.query_resolver.specs.Findings.{nodes_at}

module _ (is_so : Node → Bool) (node : Node) (columns : List Column) (standing : Standing)
    (f : Query) where
  -- the place of the first of its nodes, and of a node after them
  abbrev all : Option Span
  all = first_over is_so node columns standing f

  -- none of the operand's nodes is so
  pub none_inside : first_in is_so columns standing f ≡ None
      → all ≡ cond (is_so node) (Some node.place) None
  none_inside none = first_after is_so (nodes_at columns standing f) (node ∷ []) none

  -- one is
  pub one_inside : (found : Span) → first_in is_so columns standing f ≡ Some found
      → all ≡ Some found
  one_inside found some = first_before is_so (nodes_at columns standing f) (node ∷ []) found some

  -- either
  pub first_of_one : (found : Option Span) → first_in is_so columns standing f ≡ found
      → all ≡ option_or found (cond (is_so node) (Some node.place) None)
  first_of_one (Some place) some = one_inside place some
  first_of_one None none = none_inside none

  module _ (others : List Column) (other : Standing) (g : Query) where
    -- the nodes of two operands
    abbrev both : List Node
    both = nodes_at columns standing f ++ nodes_at others other g

    abbrev all_of_both : Option Span
    all_of_both = first_over_two is_so node columns standing f others other g

    -- none of the nodes of the operands is so
    pub none_inside_both : first_in is_so columns standing f ≡ None
        → first_in is_so others other g ≡ None
        → all_of_both ≡ cond (is_so node) (Some node.place) None
    none_inside_both none neither =
        first_after is_so both (node ∷ [])
        (first_after is_so (nodes_at columns standing f) (nodes_at others other g) none ∙ neither)

    -- one of the first is
    one_inside_first : (found : Span) → first_in is_so columns standing f ≡ Some found
        → all_of_both ≡ Some found
    one_inside_first found some =
        first_before is_so both (node ∷ []) found
        (first_before is_so (nodes_at columns standing f) (nodes_at others other g) found some)

    -- one of the second is
    one_inside_second : (found : Span) → first_in is_so columns standing f ≡ None
        → first_in is_so others other g ≡ Some found → all_of_both ≡ Some found
    one_inside_second found none some =
        first_before is_so both (node ∷ []) found
        (first_after is_so (nodes_at columns standing f) (nodes_at others other g) none ∙ some)

    -- any
    pub first_of_two : (found later : Option Span) → first_in is_so columns standing f ≡ found
        → first_in is_so others other g ≡ later
        → all_of_both ≡ option_or (option_or found later) (cond (is_so node) (Some node.place) None)
    first_of_two (Some place) later some none = one_inside_first place some
    first_of_two None (Some place) none some = one_inside_second place none some
    first_of_two None None none neither = none_inside_both none neither

    -- one of either is
    pub one_inside_both : (found : Span)
        → option_or (first_in is_so columns standing f) (first_in is_so others other g) ≡ Some found
        → all_of_both ≡ Some found
    one_inside_both found some =
        first_of_two _ _ refl refl
        ∙ ap (λ (place : Option Span). option_or place (cond (is_so node) (Some node.place) None))
        some

-- what was found is found where the node itself is not so
pub or_none : {A : Type 0} (found : Option A) → option_or found None ≡ found
or_none (Some x) = refl
or_none None = refl
