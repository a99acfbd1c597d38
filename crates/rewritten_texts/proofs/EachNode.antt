-- What holds of each node of a query holds of the nodes of its operands and of its root.
use Rattle.std.proofs.Common.{◌≡◌, Bool, true, false, cond, List, [], ◌∷◌, ◌++◌, None, Some, refl}
use Rattle.std.specs.List.{AllByRecursion}
use Rattle.predicate_cells.proofs.AllMembers.{all_back, all_front}
use Rattle.query_resolver.specs.Nodes.{Node, first_where}

module _ (P : Node → Type 0) (nodes : List Node) where
  module _ (node : Node) (all : AllByRecursion P (nodes ++ node ∷ [])) where
    pub of_inner : AllByRecursion P nodes
    of_inner = all_front P nodes (node ∷ []) all

    pub of_last : P node
    of_last = (all_back P nodes (node ∷ []) all).0

  module _ (others : List Node) (node : Node)
      (all : AllByRecursion P (nodes ++ others ++ node ∷ [])) where
    pub of_left : AllByRecursion P nodes
    of_left = all_front P nodes others (all_front P (nodes ++ others) (node ∷ []) all)

    pub of_right : AllByRecursion P others
    of_right = all_back P nodes others (all_front P (nodes ++ others) (node ∷ []) all)

    pub of_root : P node
    of_root = (all_back P (nodes ++ others) (node ∷ []) all).0

-- where there is no first node that is so, none is
pub none_is : (is_so : Node → Bool) (nodes : List Node) → first_where is_so nodes ≡ None
    → AllByRecursion (λ node. is_so node ≡ false) nodes
none_is is_so [] none = tt
none_is is_so (node ∷ nodes) none = by (is_so node) refl none (none_is is_so nodes)
  where
    by : (b : Bool) → is_so node ≡ b
        → cond b (Some node.place) (first_where is_so nodes) ≡ None
        → (first_where is_so nodes ≡ None → AllByRecursion (λ other. is_so other ≡ false) nodes)
        → AllByRecursion (λ other. is_so other ≡ false) (node ∷ nodes)
    by true is found rest = absurd (cc)
    by false is later rest = (is, rest later)
