-- The first of some nodes where something holds, by those before it and those after it.
use Rattle.std.proofs.Common.{◌≡◌, Bool, true, false, cond, List, [], ◌∷◌, ◌++◌}
use Rattle.std.proofs.Common.{Some, None, refl}
use Rattle.language_base.specs.declared.span.Span.{Span}
use Rattle.query_resolver.specs.Nodes.{Node, first_where}

module _ (is_so : Node → Bool) where
  -- none of the first nodes is so, and the first of the others that is decides
  pub first_after : (nodes others : List Node) → first_where is_so nodes ≡ None
      → first_where is_so (nodes ++ others) ≡ first_where is_so others
  first_after [] others none = refl
  first_after (node ∷ nodes) others none = by (is_so node) (first_after nodes others) none
    where
      by : (b : Bool) → (first_where is_so nodes ≡ None
          → first_where is_so (nodes ++ others) ≡ first_where is_so others)
          → cond b (Some node.place) (first_where is_so nodes) ≡ None
          → cond b (Some node.place) (first_where is_so (nodes ++ others))
          ≡ first_where is_so others
      by true later none = absurd (cc)
      by false later none = later none

  -- one of the first nodes is so
  pub first_before : (nodes others : List Node) (found : Span)
      → first_where is_so nodes ≡ Some found → first_where is_so (nodes ++ others) ≡ Some found
  first_before [] others found some = absurd (cc)
  first_before (node ∷ nodes) others found some =
      by (is_so node) (first_before nodes others found) some
    where
      by : (b : Bool) → (first_where is_so nodes ≡ Some found
          → first_where is_so (nodes ++ others) ≡ Some found)
          → cond b (Some node.place) (first_where is_so nodes) ≡ Some found
          → cond b (Some node.place) (first_where is_so (nodes ++ others)) ≡ Some found
      by true later some = some
      by false later some = later some
