-- Where no node has too many positions, all have few.
use Rattle.std.proofs.Common.{◌≡◌, ◌≤◌, ℕ, false, not, nat_le, List, None, arith}
use Rattle.std.proofs.lemmas.Bool.Decides.{nat_tests}
use Rattle.std.specs.List.{AllByRecursion}
use Rattle.item_schema.specs.declared.column.Column.{Column}
use Rattle.language_base.specs.Limits.{max_positions}
use Rattle.query_model.specs.Queries.{Qre, atom, eps, choice, split, iter, combine, apply, compose}
use Rattle.query_model.specs.Queries.{collect}
use Rattle.query_model.specs.QueryTypes.{derived_columns, type_of}
use Rattle.query_model.specs.Rates.{rate_of}
use Rattle.query_model.specs.Rules.{Standing, bound}
use Rattle.query_model.specs.Sizes.{HasFewPositions}
use Rattle.query_resolver.specs.Nodes.{Node, Places, first_places, first_where, nodes_in, root}
use Rattle.query_resolver.specs.Nodes.{second_places}
use Rattle.query_resolver.specs.Sizes.{has_many_positions}
use Rattle.rate_expr.specs.Rates.{size_of}
use Rattle.rewritten_texts.proofs.EachNode.{none_is, of_inner, of_last, of_left, of_right, of_root}

-- the node has few
abbrev HasFew : Node → Type 0
HasFew node = has_many_positions node ≡ false

few : (count : ℕ) → not (nat_le count max_positions) ≡ false → count ≤ max_positions
few count is = grind (arith, nat_tests)

all_few : (columns : List Column) (standing : Standing) (query : Qre) (places : Places)
    → AllByRecursion HasFew (nodes_in columns standing query places) → HasFewPositions query
all_few columns standing (atom pred e) places all = tt
all_few columns standing (eps number) places all = tt
all_few columns standing (choice f g) places all =
    let fs = nodes_in columns bound f (first_places places) in
    let gs = nodes_in columns bound g (second_places places) in
    let last = root columns standing (choice f g) places in (
      all_few columns bound f (first_places places) (of_left HasFew fs gs last all),
      all_few columns bound g (second_places places) (of_right HasFew fs gs last all),
      few (size_of (rate_of (choice f g))) (of_root HasFew fs gs last all),
    )
all_few columns standing (split f g e) places all =
    let fs = nodes_in columns bound f (first_places places) in
    let gs = nodes_in columns bound g (second_places places) in
    let last = root columns standing (split f g e) places in (
      all_few columns bound f (first_places places) (of_left HasFew fs gs last all),
      all_few columns bound g (second_places places) (of_right HasFew fs gs last all),
      few (size_of (rate_of (split f g e))) (of_root HasFew fs gs last all),
    )
all_few columns standing (iter f number e) places all =
    all_few columns bound f (first_places places)
    (of_inner HasFew (nodes_in columns bound f (first_places places))
    (root columns standing (iter f number e) places) all)
all_few columns standing (combine f g e) places all =
    let fs = nodes_in columns bound f (first_places places) in
    let gs = nodes_in columns bound g (second_places places) in
    let last = root columns standing (combine f g e) places in (
      all_few columns bound f (first_places places) (of_left HasFew fs gs last all),
      all_few columns bound g (second_places places) (of_right HasFew fs gs last all),
    )
all_few columns standing (apply f e) places all =
    all_few columns bound f (first_places places)
    (of_inner HasFew (nodes_in columns bound f (first_places places))
    (root columns standing (apply f e) places) all)
all_few columns standing (compose f g) places all =
    let values = derived_columns (type_of columns f) in
    let fs = nodes_in columns standing f (first_places places) in
    let gs = nodes_in values standing g (second_places places) in
    let last = root columns standing (compose f g) places in (
      all_few columns standing f (first_places places) (of_left HasFew fs gs last all),
      all_few values standing g (second_places places) (of_right HasFew fs gs last all),
    )
all_few columns standing (collect chosen sync rate f) places all =
    let fs = nodes_in columns bound f (first_places places) in
    let last = root columns standing (collect chosen sync rate f) places in (
      all_few columns bound f (first_places places) (of_inner HasFew fs last all),
      few (size_of rate) (of_last HasFew fs last all),
    )

pub few_positions : (columns : List Column) (standing : Standing) (query : Qre) (places : Places)
    → first_where has_many_positions (nodes_in columns standing query places) ≡ None
    → HasFewPositions query
few_positions columns standing query places none =
    all_few columns standing query places
    (none_is has_many_positions (nodes_in columns standing query places) none)
