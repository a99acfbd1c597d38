-- Where no composition distinguishes too many values, all of them distinguish few.
use Rattle.std.proofs.Common.{◌≡◌, Bool, true, false, not, cond, List, [], ◌∷◌, ◌++◌, Some, None}
use Rattle.std.proofs.Common.{refl, arith}
use Rattle.std.specs.List.{AllByRecursion}
use Rattle.std.proofs.lemmas.Bool.Decides.{nat_tests}
use Rattle.item_schema.specs.declared.column.Column.{Column}
use Rattle.predicate_cells.proofs.AllMembers.{all_back, all_front}
use Rattle.query_model.specs.Queries.{Qre, atom, eps, choice, split, iter, combine, apply, compose}
use Rattle.query_model.specs.Queries.{collect}
use Rattle.query_model.specs.QueryTypes.{derived_columns, type_of}
use Rattle.query_model.specs.Rules.{Standing, bound}
use Rattle.query_model.specs.Sizes.{HasFewCells, HaveFewCells}
use Rattle.query_resolver.specs.Findings.{derives_many}
use Rattle.query_resolver.specs.Nodes.{Node, Places, first_places, first_where, nodes_in, root}
use Rattle.query_resolver.specs.Nodes.{second_places}
use Rattle.query_model.specs.Few.{has_few_cells}

-- the node is no composition that distinguishes too many
abbrev DerivesFew : Node → Type 0
DerivesFew node = derives_many node ≡ false

-- where there is no first that does, none does
none_derives : (nodes : List Node) → first_where derives_many nodes ≡ None
    → AllByRecursion DerivesFew nodes
none_derives [] none = tt
none_derives (node ∷ nodes) none = by (derives_many node) refl (none_derives nodes) none
  where
    by : (b : Bool) → derives_many node ≡ b
        → (first_where derives_many nodes ≡ None → AllByRecursion DerivesFew nodes)
        → cond b (Some node.place) (first_where derives_many nodes) ≡ None
        → AllByRecursion DerivesFew (node ∷ nodes)
    by true is later none = absurd (cc)
    by false is later none = (is, later none)

-- a test that says that they are few
few_decided : (columns : List Column) (query : Qre) → not (has_few_cells columns query) ≡ false
    → HasFewCells columns query
few_decided columns query few = grind (arith, nat_tests, few)

module _ (nodes others : List Node) (node : Node)
    (few : AllByRecursion DerivesFew (nodes ++ others ++ node ∷ [])) where
  operands_few : AllByRecursion DerivesFew (nodes ++ others)
  operands_few = all_front DerivesFew (nodes ++ others) (node ∷ []) few

  left_few : AllByRecursion DerivesFew nodes
  left_few = all_front DerivesFew nodes others operands_few

  right_few : AllByRecursion DerivesFew others
  right_few = all_back DerivesFew nodes others operands_few

  root_few : DerivesFew node
  root_few = (all_back DerivesFew (nodes ++ others) (node ∷ []) few).0

few_inside : (columns : List Column) (standing : Standing) (query : Qre) (places : Places)
    → AllByRecursion DerivesFew (nodes_in columns standing query places)
    → HaveFewCells columns query
few_inside columns standing (atom pred e) places few = tt
few_inside columns standing (eps number) places few = tt
few_inside columns standing (choice f g) places few =
    let fs = nodes_in columns bound f (first_places places) in
    let gs = nodes_in columns bound g (second_places places) in
    let last = root columns standing (choice f g) places in (
      few_inside columns bound f (first_places places) (left_few fs gs last few),
      few_inside columns bound g (second_places places) (right_few fs gs last few),
    )
few_inside columns standing (split f g e) places few =
    let fs = nodes_in columns bound f (first_places places) in
    let gs = nodes_in columns bound g (second_places places) in
    let last = root columns standing (split f g e) places in (
      few_inside columns bound f (first_places places) (left_few fs gs last few),
      few_inside columns bound g (second_places places) (right_few fs gs last few),
    )
few_inside columns standing (iter f number e) places few =
    few_inside columns bound f (first_places places)
    (all_front DerivesFew (nodes_in columns bound f (first_places places)) _ few)
few_inside columns standing (combine f g e) places few =
    let fs = nodes_in columns bound f (first_places places) in
    let gs = nodes_in columns bound g (second_places places) in
    let last = root columns standing (combine f g e) places in (
      few_inside columns bound f (first_places places) (left_few fs gs last few),
      few_inside columns bound g (second_places places) (right_few fs gs last few),
    )
few_inside columns standing (apply f e) places few =
    few_inside columns bound f (first_places places)
    (all_front DerivesFew (nodes_in columns bound f (first_places places)) _ few)
few_inside columns standing (compose f g) places few =
    let values = derived_columns (type_of columns f) in
    let fs = nodes_in columns standing f (first_places places) in
    let gs = nodes_in values standing g (second_places places) in
    let last = root columns standing (compose f g) places in (
      few_inside columns standing f (first_places places) (left_few fs gs last few),
      few_decided values g (root_few fs gs last few),
      few_inside values standing g (second_places places) (right_few fs gs last few),
    )
few_inside columns standing (collect chosen sync rate f) places few =
    few_inside columns bound f (first_places places)
    (all_front DerivesFew (nodes_in columns bound f (first_places places)) _ few)

-- the same of a query that has these places
pub few_values : (columns : List Column) (standing : Standing) (query : Qre) (places : Places)
    → first_where derives_many (nodes_in columns standing query places) ≡ None
    → HaveFewCells columns query
few_values columns standing query places none =
    few_inside columns standing query places
    (none_derives (nodes_in columns standing query places) none)
