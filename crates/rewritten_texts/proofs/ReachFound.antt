-- A query that breaks no rule of words reaches few states.
use Rattle.std.proofs.Common.{List, [], ◌∷◌, None, inl, inr}
use Rattle.std.specs.List.{AllByRecursion}
use Rattle.item_schema.specs.declared.column.Column.{Column}
use Rattle.query_model.specs.Queries.{Qre, atom, eps, choice, split, iter, combine, apply, compose}
use Rattle.query_model.specs.Queries.{collect}
use Rattle.query_model.specs.QueryTypes.{derived_columns, type_of}
use Rattle.query_model.specs.Rates.{rate_of}
use Rattle.query_model.specs.Rules.{Standing, bound, free}
use Rattle.query_resolver.specs.Nodes.{Node, Places, first_places, nodes_in, root, second_places}
use Rattle.rate_expr.specs.Rates.{Regex}
use Rattle.text_reads_back.specs.Reach.{FeedsFew, ReachesFew}
use Rattle.type_checker.specs.WordRules.{Breaks, BreaksFed, FirstBroken}
use Rattle.rewritten_texts.proofs.EachNode.{of_inner, of_left, of_right, of_root}

-- the node breaks no rule of words
abbrev IsKept : Node → Type 0
IsKept node = Breaks node None

all_kept : (nodes : List Node) → FirstBroken nodes None → AllByRecursion IsKept nodes
all_kept [] none = tt
all_kept (node ∷ nodes) (inl (rule, breaks, same)) = absurd (cc)
all_kept (node ∷ nodes) (inr (keeps, none)) = (keeps, all_kept nodes none)

fed_few : (standing : Standing) (columns : List Column) (r : Regex)
    → BreaksFed standing columns r None → FeedsFew standing columns r
fed_few free columns r keeps = tt
fed_few bound columns r keeps = keeps.0

few_reached : (standing : Standing) (columns : List Column) (query : Qre) (places : Places)
    → AllByRecursion IsKept (nodes_in columns standing query places)
    → ReachesFew standing columns query
few_reached standing columns (atom pred e) places all = tt
few_reached standing columns (eps number) places all = tt
few_reached standing columns (choice f g) places all =
    let fs = nodes_in columns bound f (first_places places) in
    let gs = nodes_in columns bound g (second_places places) in
    let last = root columns standing (choice f g) places in (
      few_reached bound columns f (first_places places) (of_left IsKept fs gs last all),
      few_reached bound columns g (second_places places) (of_right IsKept fs gs last all),
    )
few_reached standing columns (split f g e) places all =
    let fs = nodes_in columns bound f (first_places places) in
    let gs = nodes_in columns bound g (second_places places) in
    let last = root columns standing (split f g e) places in (
      few_reached bound columns f (first_places places) (of_left IsKept fs gs last all),
      few_reached bound columns g (second_places places) (of_right IsKept fs gs last all),
    )
few_reached standing columns (iter f number e) places all =
    few_reached bound columns f (first_places places)
    (of_inner IsKept (nodes_in columns bound f (first_places places))
    (root columns standing (iter f number e) places) all)
few_reached standing columns (combine f g e) places all =
    let fs = nodes_in columns bound f (first_places places) in
    let gs = nodes_in columns bound g (second_places places) in
    let last = root columns standing (combine f g e) places in (
      few_reached bound columns f (first_places places) (of_left IsKept fs gs last all),
      few_reached bound columns g (second_places places) (of_right IsKept fs gs last all),
      (of_root IsKept fs gs last all).0,
    )
few_reached standing columns (apply f e) places all =
    few_reached bound columns f (first_places places)
    (of_inner IsKept (nodes_in columns bound f (first_places places))
    (root columns standing (apply f e) places) all)
few_reached standing columns (compose f g) places all =
    let values = derived_columns (type_of columns f) in
    let fs = nodes_in columns standing f (first_places places) in
    let gs = nodes_in values standing g (second_places places) in
    let last = root columns standing (compose f g) places in (
      few_reached standing columns f (first_places places) (of_left IsKept fs gs last all),
      few_reached standing values g (second_places places) (of_right IsKept fs gs last all),
      fed_few standing values (rate_of g) (of_root IsKept fs gs last all),
    )
few_reached standing columns (collect chosen sync rate f) places all =
    few_reached bound columns f (first_places places)
    (of_inner IsKept (nodes_in columns bound f (first_places places))
    (root columns standing (collect chosen sync rate f) places) all)

pub reach_found : (standing : Standing) (columns : List Column) (query : Qre) (places : Places)
    → FirstBroken (nodes_in columns standing query places) None
    → ReachesFew standing columns query
reach_found standing columns query places none =
    few_reached standing columns query places
    (all_kept (nodes_in columns standing query places) none)
