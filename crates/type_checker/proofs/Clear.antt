-- A query whose types are kept and that breaks no rule of words keeps all rules.
use Rattle.std.proofs.Common.{inl, inr, List, [], ◌∷◌, ◌++◌, None}
use Rattle.std.specs.List.{AllByRecursion, list_all}
use Rattle.std.proofs.lemmas.Bool.{and_parts}
use Rattle.item_schema.specs.declared.column.Column.{Column}
use Rattle.predicate_cells.specs.Cells.{AllFit}
use Rattle.predicates.specs.Fits.{fits}
use Rattle.predicate_cells.specs.Met.{IsMet}
use Rattle.predicates.specs.Predicates.{Predicate}
use Rattle.predicate_cells.proofs.AllMembers.{all_back, all_front}
use Rattle.query_model.specs.Queries.{Qre, atom, eps, choice, split, iter, combine, apply, compose}
use Rattle.query_model.specs.Queries.{collect}
use Rattle.query_model.specs.QueryTypes.{derived_columns, type_of}
use Rattle.query_model.specs.Rates.{rate_of}
use Rattle.query_model.specs.Rules.{CanBeMet, IsClear, IsFedWell, Standing, bound, free}
use Rattle.rate_expr.specs.Rates.{preds_of}
use Rattle.query_resolver.specs.Findings.{KeepsTypes}
use Rattle.query_resolver.specs.Nodes.{Node, Places, first_places, nodes_in, root, second_places}
use Rattle.type_checker.specs.WordRules.{Breaks, BreaksFed, FirstBroken}

-- the node breaks no rule of words
abbrev IsKept : Node → Type 0
IsKept node = Breaks node None

-- where no node is refused, none breaks a rule
all_kept : (nodes : List Node) → FirstBroken nodes None → AllByRecursion IsKept nodes
all_kept [] kept = tt
all_kept (node ∷ nodes) (inl (rule, broken, is)) = absurd (cc)
all_kept (node ∷ nodes) (inr (here, rest)) = (here, all_kept nodes rest)

module _ (nodes others : List Node) (node : Node)
    (kept : AllByRecursion IsKept (nodes ++ others ++ node ∷ [])) where
  operands_kept : AllByRecursion IsKept (nodes ++ others)
  operands_kept = all_front IsKept (nodes ++ others) (node ∷ []) kept

  left_kept : AllByRecursion IsKept nodes
  left_kept = all_front IsKept nodes others operands_kept

  right_kept : AllByRecursion IsKept others
  right_kept = all_back IsKept nodes others operands_kept

  root_kept : IsKept node
  root_kept = (all_back IsKept (nodes ++ others) (node ∷ []) kept).0

module _ (nodes : List Node) (node : Node) (kept : AllByRecursion IsKept (nodes ++ node ∷ [])) where
  operand_kept : AllByRecursion IsKept nodes
  operand_kept = all_front IsKept nodes (node ∷ []) kept

  last_kept : IsKept node
  last_kept = (all_back IsKept nodes (node ∷ []) kept).0

-- a composition that breaks no rule is fed well
fed_well : (standing : Standing) (columns : List Column) (g : Qre)
    → BreaksFed standing columns (rate_of g) None → IsFedWell standing columns g
fed_well free columns g kept = tt
fed_well bound columns g kept = kept.1

-- predicates that fit and are met by items can be met
all_met : (columns : List Column) (preds : List Predicate) → AllFit columns preds
    → AllByRecursion (IsMet columns) preds → AllByRecursion (CanBeMet columns) preds
all_met columns [] fit met = tt
all_met columns (pred ∷ preds) fit ((item, is, meets), rest) =
    let both = and_parts (fits columns pred) (list_all (fits columns) preds) fit in (
      record { fit = both.0; item = item; is_item = is; meets = meets },
      all_met columns preds both.1 rest,
    )

clear_of : (columns : List Column) (standing : Standing) (query : Qre) (places : Places)
    → KeepsTypes columns query → AllByRecursion IsKept (nodes_in columns standing query places)
    → IsClear standing columns query
clear_of columns standing (atom pred e) places types ((item, is, meets), rest) =
    (record { fit = types.0; item = item; is_item = is; meets = meets }, types.1)
clear_of columns standing (eps number) places types kept = types
clear_of columns standing (choice f g) places (left, right, same) kept =
    let fs = nodes_in columns bound f (first_places places) in
    let gs = nodes_in columns bound g (second_places places) in
    let last = root columns standing (choice f g) places in (
      clear_of columns bound f (first_places places) left (left_kept fs gs last kept),
      clear_of columns bound g (second_places places) right (right_kept fs gs last kept),
      same,
      root_kept fs gs last kept,
    )
clear_of columns standing (split f g e) places (left, right, typed) kept =
    let fs = nodes_in columns bound f (first_places places) in
    let gs = nodes_in columns bound g (second_places places) in
    let last = root columns standing (split f g e) places in (
      clear_of columns bound f (first_places places) left (left_kept fs gs last kept),
      clear_of columns bound g (second_places places) right (right_kept fs gs last kept),
      typed,
      root_kept fs gs last kept,
    )
clear_of columns standing (iter f number e) places (inner, fits, typed) kept =
    let fs = nodes_in columns bound f (first_places places) in
    let last = root columns standing (iter f number e) places in (
      clear_of columns bound f (first_places places) inner (operand_kept fs last kept),
      fits,
      typed,
      last_kept fs last kept,
    )
clear_of columns standing (combine f g e) places (left, right, typed) kept =
    let fs = nodes_in columns bound f (first_places places) in
    let gs = nodes_in columns bound g (second_places places) in
    let last = root columns standing (combine f g e) places in (
      clear_of columns bound f (first_places places) left (left_kept fs gs last kept),
      clear_of columns bound g (second_places places) right (right_kept fs gs last kept),
      typed,
      (root_kept fs gs last kept).1,
    )
clear_of columns standing (apply f e) places (inner, typed) kept =
    let fs = nodes_in columns bound f (first_places places) in
    let last = root columns standing (apply f e) places in
    (clear_of columns bound f (first_places places) inner (operand_kept fs last kept), typed)
clear_of columns standing (compose f g) places (left, right, single) kept =
    let values = derived_columns (type_of columns f) in
    let fs = nodes_in columns standing f (first_places places) in
    let gs = nodes_in values standing g (second_places places) in
    let last = root columns standing (compose f g) places in (
      clear_of columns standing f (first_places places) left (left_kept fs gs last kept),
      clear_of values standing g (second_places places) right (right_kept fs gs last kept),
      single,
      fed_well standing values g (root_kept fs gs last kept),
    )
clear_of columns standing (collect chosen sync rate f) places
    (inner, number, single, texts, test, words) kept =
    let fs = nodes_in columns bound f (first_places places) in
    let last = root columns standing (collect chosen sync rate f) places in (
      clear_of columns bound f (first_places places) inner (operand_kept fs last kept),
      number,
      single,
      texts,
      test,
      all_met columns (preds_of rate) words (last_kept fs last kept),
    )

pub clear_from : (columns : List Column) (standing : Standing) (query : Qre) (places : Places)
    → KeepsTypes columns query → FirstBroken (nodes_in columns standing query places) None
    → IsClear standing columns query
clear_from columns standing query places types kept =
    clear_of columns standing query places types
    (all_kept (nodes_in columns standing query places) kept)
