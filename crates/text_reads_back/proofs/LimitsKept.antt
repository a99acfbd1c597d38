-- A query within the limits passes the tests of them.
use Rattle.std.proofs.Common.{◌≡◌, ◌≤◌, ℕ, Bool, true, false, not, cond, nat_le, List, [], ◌∷◌, ◌++◌}
use Rattle.std.proofs.Common.{None, Some, refl, ap, ◌∙◌, arith}
use Rattle.std.proofs.lemmas.Bool.Decides.{nat_tests}
use Rattle.item_schema.specs.declared.column.Column.{Column}
use Rattle.language_base.specs.Limits.{max_positions}
use Rattle.query_model.specs.Few.{has_few_cells}
use Rattle.query_model.specs.Queries.{Qre, atom, eps, choice, split, iter, combine, apply, compose}
use Rattle.query_model.specs.Queries.{collect}
use Rattle.query_model.specs.QueryTypes.{derived_columns, type_of}
use Rattle.query_model.specs.Rates.{rate_of}
use Rattle.query_model.specs.Rules.{Standing, bound}
use Rattle.query_model.specs.Sizes.{HasFewCells, HasFewPositions, HaveFewCells}
use Rattle.query_resolver.specs.Findings.{derives_many}
use Rattle.query_resolver.specs.Nodes.{Node, Places, first_places, first_where, nodes_in, root}
use Rattle.query_resolver.specs.Nodes.{second_places}
use Rattle.query_resolver.specs.Sizes.{has_many_positions}
use Rattle.query_resolver.proofs.Placed.{first_after}
use Rattle.rate_expr.specs.Rates.{size_of}

-- a node alone, after those of one operand and after those of two, where none is so
module _ (is_so : Node → Bool) where
  last_node : (node : Node) → is_so node ≡ false → first_where is_so (node ∷ []) ≡ None
  last_node node is = ap (λ b. cond b (Some node.place) None) is

  after_one : (nodes : List Node) (node : Node) → first_where is_so nodes ≡ None
      → is_so node ≡ false → first_where is_so (nodes ++ node ∷ []) ≡ None
  after_one nodes node none is = first_after is_so nodes (node ∷ []) none ∙ last_node node is

  after_two : (nodes others : List Node) (node : Node) → first_where is_so nodes ≡ None
      → first_where is_so others ≡ None → is_so node ≡ false
      → first_where is_so (nodes ++ others ++ node ∷ []) ≡ None
  after_two nodes others node none neither is =
      first_after is_so (nodes ++ others) (node ∷ []) (first_after is_so nodes others none ∙ neither)
      ∙ last_node node is

-- a query with few positions has few at its root
few_positions : (query : Qre) → HasFewPositions query → size_of (rate_of query) ≤ max_positions
few_positions (atom pred e) few = omega arith
few_positions (eps number) few = omega arith
few_positions (choice f g) few = few.2
few_positions (split f g e) few = few.2
few_positions (iter f number e) few = few_positions f few
few_positions (combine f g e) few = few_positions f few.0
few_positions (apply f e) few = few_positions f few
few_positions (compose f g) few = few_positions f few.0
few_positions (collect chosen sync rate f) few = few.1

root_positions : (columns : List Column) (standing : Standing) (query : Qre) (places : Places)
    → HasFewPositions query → has_many_positions (root columns standing query places) ≡ false
root_positions columns standing query places few =
    let small = few_positions query few in
    few_tested (size_of (rate_of query)) small
  where
    few_tested : (n : ℕ) → n ≤ max_positions → not (nat_le n max_positions) ≡ false
    few_tested n small = grind (arith, nat_tests, small)

-- so it has few at each node
pub positions_kept : (columns : List Column) (standing : Standing) (query : Qre) (places : Places)
    → HasFewPositions query
    → first_where has_many_positions (nodes_in columns standing query places) ≡ None
positions_kept columns standing (atom pred e) places few =
    last_node has_many_positions (root columns standing (atom pred e) places)
    (root_positions columns standing (atom pred e) places few)
positions_kept columns standing (eps number) places few =
    last_node has_many_positions (root columns standing (eps number) places)
    (root_positions columns standing (eps number) places few)
positions_kept columns standing (choice f g) places few =
    after_two has_many_positions (nodes_in columns bound f (first_places places))
    (nodes_in columns bound g (second_places places)) _
    (positions_kept columns bound f (first_places places) few.0)
    (positions_kept columns bound g (second_places places) few.1)
    (root_positions columns standing (choice f g) places few)
positions_kept columns standing (split f g e) places few =
    after_two has_many_positions (nodes_in columns bound f (first_places places))
    (nodes_in columns bound g (second_places places)) _
    (positions_kept columns bound f (first_places places) few.0)
    (positions_kept columns bound g (second_places places) few.1)
    (root_positions columns standing (split f g e) places few)
positions_kept columns standing (iter f number e) places few =
    after_one has_many_positions (nodes_in columns bound f (first_places places)) _
    (positions_kept columns bound f (first_places places) few)
    (root_positions columns standing (iter f number e) places few)
positions_kept columns standing (combine f g e) places few =
    after_two has_many_positions (nodes_in columns bound f (first_places places))
    (nodes_in columns bound g (second_places places)) _
    (positions_kept columns bound f (first_places places) few.0)
    (positions_kept columns bound g (second_places places) few.1)
    (root_positions columns standing (combine f g e) places few)
positions_kept columns standing (apply f e) places few =
    after_one has_many_positions (nodes_in columns bound f (first_places places)) _
    (positions_kept columns bound f (first_places places) few)
    (root_positions columns standing (apply f e) places few)
positions_kept columns standing (compose f g) places few =
    after_two has_many_positions (nodes_in columns standing f (first_places places))
    (nodes_in (derived_columns (type_of columns f)) standing g (second_places places)) _
    (positions_kept columns standing f (first_places places) few.0)
    (positions_kept (derived_columns (type_of columns f)) standing g (second_places places) few.1)
    (root_positions columns standing (compose f g) places few)
positions_kept columns standing (collect chosen sync rate f) places few =
    after_one has_many_positions (nodes_in columns bound f (first_places places)) _
    (positions_kept columns bound f (first_places places) few.0)
    (root_positions columns standing (collect chosen sync rate f) places few)

-- few cells pass the test
pub cells_tested : (columns : List Column) (query : Qre) → HasFewCells columns query
    → has_few_cells columns query ≡ true
cells_tested columns query few = grind (arith, nat_tests, few)

-- and so do those of the values inside
pub cells_kept : (columns : List Column) (standing : Standing) (query : Qre) (places : Places)
    → HaveFewCells columns query
    → first_where derives_many (nodes_in columns standing query places) ≡ None
cells_kept columns standing (atom pred e) places few = refl
cells_kept columns standing (eps number) places few = refl
cells_kept columns standing (choice f g) places few =
    after_two derives_many (nodes_in columns bound f (first_places places))
    (nodes_in columns bound g (second_places places)) _
    (cells_kept columns bound f (first_places places) few.0)
    (cells_kept columns bound g (second_places places) few.1) refl
cells_kept columns standing (split f g e) places few =
    after_two derives_many (nodes_in columns bound f (first_places places))
    (nodes_in columns bound g (second_places places)) _
    (cells_kept columns bound f (first_places places) few.0)
    (cells_kept columns bound g (second_places places) few.1) refl
cells_kept columns standing (iter f number e) places few =
    after_one derives_many (nodes_in columns bound f (first_places places)) _
    (cells_kept columns bound f (first_places places) few) refl
cells_kept columns standing (combine f g e) places few =
    after_two derives_many (nodes_in columns bound f (first_places places))
    (nodes_in columns bound g (second_places places)) _
    (cells_kept columns bound f (first_places places) few.0)
    (cells_kept columns bound g (second_places places) few.1) refl
cells_kept columns standing (apply f e) places few =
    after_one derives_many (nodes_in columns bound f (first_places places)) _
    (cells_kept columns bound f (first_places places) few) refl
cells_kept columns standing (compose f g) places few =
    after_two derives_many (nodes_in columns standing f (first_places places))
    (nodes_in (derived_columns (type_of columns f)) standing g (second_places places)) _
    (cells_kept columns standing f (first_places places) few.0)
    (cells_kept (derived_columns (type_of columns f)) standing g (second_places places) few.2)
    (ap not (cells_tested (derived_columns (type_of columns f)) g few.1))
cells_kept columns standing (collect chosen sync rate f) places few =
    after_one derives_many (nodes_in columns bound f (first_places places)) _
    (cells_kept columns bound f (first_places places) few) refl
