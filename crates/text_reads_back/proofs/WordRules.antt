-- A query that keeps the rules and reaches few states breaks no rule of words.
use Rattle.std.proofs.Common.{◌≡◌, List, [], ◌∷◌, ◌++◌, None, inl, inr, refl}
use Rattle.std.specs.List.{AllByRecursion}
use Rattle.item_schema.specs.declared.column.Column.{Column}
use Rattle.predicate_cells.specs.Met.{IsMet}
use Rattle.predicates.specs.Predicates.{Predicate}
use Rattle.query_model.specs.Queries.{Qre, atom, eps, choice, split, iter, combine, apply, compose}
use Rattle.query_model.specs.Queries.{collect}
use Rattle.query_model.specs.QueryTypes.{derived_columns, type_of}
use Rattle.query_model.specs.Rules.{CanBeMet, IsClear, Standing, free, bound}
use Rattle.query_resolver.specs.Nodes.{Node, Places, first_places, nodes_in, root, second_places}
use Rattle.rate_expr.specs.Rates.{preds_of}
use Rattle.type_checker.specs.WordRules.{Breaks, FirstBroken}
use Rattle.text_reads_back.specs.Reach.{ReachesFew}

-- nodes none of which breaks one, one after the other
none_then : (nodes others : List Node) → FirstBroken nodes None → FirstBroken others None
    → FirstBroken (nodes ++ others) None
none_then [] others none neither = neither
none_then (node ∷ nodes) others (inl (rule, breaks, same)) neither = absurd (cc)
none_then (node ∷ nodes) others (inr (keeps, none)) neither =
    inr (keeps, none_then nodes others none neither)

-- the root after the nodes of its operands
last_none : (node : Node) → Breaks node None → FirstBroken (node ∷ []) None
last_none node keeps = inr (keeps, refl)

after_one : (nodes : List Node) (node : Node) → FirstBroken nodes None → Breaks node None
    → FirstBroken (nodes ++ node ∷ []) None
after_one nodes node none keeps = none_then nodes (node ∷ []) none (last_none node keeps)

after_two : (nodes others : List Node) (node : Node) → FirstBroken nodes None
    → FirstBroken others None → Breaks node None
    → FirstBroken (nodes ++ others ++ node ∷ []) None
after_two nodes others node none neither keeps =
    after_one (nodes ++ others) node (none_then nodes others none neither) keeps

-- what can be met is met
met : (columns : List Column) (pred : Predicate) → CanBeMet columns pred → IsMet columns pred
met columns pred can = (can.item, can.is_item, can.meets)

all_met : (columns : List Column) (preds : List Predicate)
    → AllByRecursion (CanBeMet columns) preds → AllByRecursion (IsMet columns) preds
all_met columns [] can = tt
all_met columns (pred ∷ preds) can = (met columns pred can.0, all_met columns preds can.1)

-- the right operand of a composition
fed_well : (standing : Standing) (columns : List Column) (f g : Qre) (places : Places)
    → IsClear standing columns (compose f g) → ReachesFew standing columns (compose f g)
    → Breaks (root columns standing (compose f g) places) None
fed_well free columns f g places clear few = tt
fed_well bound columns f g places clear few = (few.2, clear.3)

pub none_broken : (standing : Standing) (columns : List Column) (query : Qre) (places : Places)
    → IsClear standing columns query → ReachesFew standing columns query
    → FirstBroken (nodes_in columns standing query places) None
none_broken standing columns (atom pred e) places clear few =
    last_none (root columns standing (atom pred e) places) (met columns pred clear.0)
none_broken standing columns (eps number) places clear few =
    last_none (root columns standing (eps number) places) tt
none_broken standing columns (choice f g) places clear few =
    after_two (nodes_in columns bound f (first_places places))
    (nodes_in columns bound g (second_places places)) (root columns standing (choice f g) places)
    (none_broken bound columns f (first_places places) clear.0 few.0)
    (none_broken bound columns g (second_places places) clear.1 few.1) clear.3
none_broken standing columns (split f g e) places clear few =
    after_two (nodes_in columns bound f (first_places places))
    (nodes_in columns bound g (second_places places)) (root columns standing (split f g e) places)
    (none_broken bound columns f (first_places places) clear.0 few.0)
    (none_broken bound columns g (second_places places) clear.1 few.1) clear.3
none_broken standing columns (iter f number e) places clear few =
    after_one (nodes_in columns bound f (first_places places))
    (root columns standing (iter f number e) places)
    (none_broken bound columns f (first_places places) clear.0 few) clear.3
none_broken standing columns (combine f g e) places clear few =
    after_two (nodes_in columns bound f (first_places places))
    (nodes_in columns bound g (second_places places)) (root columns standing (combine f g e) places)
    (none_broken bound columns f (first_places places) clear.0 few.0)
    (none_broken bound columns g (second_places places) clear.1 few.1) (few.2, clear.3)
none_broken standing columns (apply f e) places clear few =
    after_one (nodes_in columns bound f (first_places places))
    (root columns standing (apply f e) places)
    (none_broken bound columns f (first_places places) clear.0 few) tt
none_broken standing columns (compose f g) places clear few =
    after_two (nodes_in columns standing f (first_places places))
    (nodes_in (derived_columns (type_of columns f)) standing g (second_places places))
    (root columns standing (compose f g) places)
    (none_broken standing columns f (first_places places) clear.0 few.0)
    (none_broken standing (derived_columns (type_of columns f)) g (second_places places) clear.1
    few.1)
    (fed_well standing columns f g places clear few)
none_broken standing columns (collect chosen sync rate f) places clear few =
    after_one (nodes_in columns bound f (first_places places))
    (root columns standing (collect chosen sync rate f) places)
    (none_broken bound columns f (first_places places) clear.0 few)
    (all_met columns (preds_of rate) clear.5)
