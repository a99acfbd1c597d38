-- The first broken rule of words in a query, from those of its operands and that of its root.
use Rattle.std.proofs.Common.{◌≡◌, inr, List, [], ◌∷◌, ◌++◌, Some, None}
use Rattle.std.proofs.Common.{Result, Ok, Err, OnOk, IfErr, IfOk, refl, subst}
use Rattle.item_schema.specs.declared.column.Column.{Column}
use Rattle.language_base.specs.declared.rule.Rule.{Rule}
use Rattle.query_model.specs.Queries as q
use Rattle.query_model.specs.Queries.{Qre}
use Rattle.query_model.specs.Rules.{Standing}
use Rattle.rate_expr.specs.Sets.{Sets}
use Rattle.type_checker.specs.Blames.{IsFirstBroken}
use Rattle.type_checker.specs.Breaches.{IsBrokenAt, IsBrokenBy, IsKept, operand_nodes}
use Rattle.query_resolver.specs.Nodes.{Node, Places, nodes_in, own_place, root}
use Rattle.type_checker.specs.WordRules.{BreaksAt, FirstBroken}
use Rattle.type_checker.specs.declared.word_stop.WordStop.{WordStop}
use Rattle.type_checker.specs.declared.word_stop.WordStop.TheVariants.{Broken, Ambiguous, Memory}
use Rattle.type_checker.proofs.FirstNodes.{first_alone, first_after_kept, first_with_more}
use Rattle.type_checker.proofs.FirstNodes.{broken_after}

-- what stops among some nodes stops among them and others
pub stops_before : (nodes others : List Node) (stop : WordStop) → IsBrokenBy nodes stop
    → IsBrokenBy (nodes ++ others) stop
stops_before nodes others (Broken why) (node, rule, first, is) =
    (node, rule, first_with_more node rule nodes others first, is)
stops_before nodes others (Ambiguous blame) (node, rule, first, is) =
    (node, rule, first_with_more node rule nodes others first, is)
stops_before nodes others Memory broken = tt

-- what stops after nodes that break no rule
pub stops_after : (nodes others : List Node) (stop : WordStop) → FirstBroken nodes None
    → IsBrokenBy others stop → IsBrokenBy (nodes ++ others) stop
stops_after nodes others (Broken why) kept (node, rule, first, is) =
    (node, rule, first_after_kept node rule nodes others kept first, is)
stops_after nodes others (Ambiguous blame) kept (node, rule, first, is) =
    (node, rule, first_after_kept node rule nodes others kept first, is)
stops_after nodes others Memory kept broken = tt

-- the root stands after the nodes of its operands
root_last : (columns : List Column) (standing : Standing) (query : Qre) (places : Places)
    → operand_nodes columns standing query places ++ root columns standing query places ∷ []
    ≡ nodes_in columns standing query places
root_last columns standing (q.atom pred value) places = refl
root_last columns standing (q.eps number) places = refl
root_last columns standing (q.choice f g) places = refl
root_last columns standing (q.split f g value) places = refl
root_last columns standing (q.iter f number value) places = refl
root_last columns standing (q.combine f g value) places = refl
root_last columns standing (q.apply f value) places = refl
root_last columns standing (q.compose f g) places = refl
root_last columns standing (q.collect chosen sync rate f) places = refl

module _ (columns : List Column) (standing : Standing) (query : Qre) (places : Places) where
  -- a node of an operand breaks a rule
  pub stopped_in : (stop : WordStop) → IsBrokenBy (operand_nodes columns standing query places) stop
      → IsBrokenBy (nodes_in columns standing query places) stop
  stopped_in stop broken =
      subst (λ nodes. IsBrokenBy nodes stop) (root_last columns standing query places)
      (stops_before _ _ stop broken)

  -- none does
  module _ (none : FirstBroken (operand_nodes columns standing query places) None) where
    -- it breaks no rule
    pub kept_at : BreaksAt columns standing query None
        → FirstBroken (nodes_in columns standing query places) None
    kept_at here = subst (λ nodes. FirstBroken nodes None) (root_last columns standing query places)
        (broken_after _ _ None none (inr (here, refl)))

    -- it breaks this rule, and is the first that breaks one
    first_at_root : (rule : Rule) → BreaksAt columns standing query (Some rule)
        → IsFirstBroken (nodes_in columns standing query places)
        (root columns standing query places) rule
    first_at_root rule breaks =
        let here = root columns standing query places in
        subst (λ nodes. IsFirstBroken nodes here rule) (root_last columns standing query places)
        (first_after_kept here rule (operand_nodes columns standing query places) _ none
        (first_alone here rule breaks))

    -- it is asked
    pub root_kept : (result : Result Sets WordStop) → IfOk result (IsKept columns query)
        → OnOk result (FirstBroken (nodes_in columns standing query places) None)
    root_kept (Ok sets) kept = kept_at (kept.rule standing)
    root_kept (Err stop) kept = tt

    pub root_refused : (result : Result Sets WordStop)
        → IfErr result (IsBrokenAt columns query (own_place places))
        → IfErr result (IsBrokenBy (nodes_in columns standing query places))
    root_refused (Ok sets) broken = tt
    root_refused (Err (Broken why)) (rule, each) = let (breaks, is) = each standing in
        (root columns standing query places, rule, first_at_root rule breaks, is)
    root_refused (Err (Ambiguous blame)) (rule, each) = let (breaks, is) = each standing in
        (root columns standing query places, rule, first_at_root rule breaks, is)
    root_refused (Err Memory) broken = tt
