-- Statement. The rules of words. At each node they are checked over all words of items of the
-- node's stream; of two broken rules that of the lower number counts.
use Rattle.std.specs.Prelude.{◌+◌, ◌⊎◌, ◌≡◌, List, [], ◌∷◌, Option, None, Some}
use Rattle.std.specs.List.{AllByRecursion, Contains}
use Rattle.language_base.specs.declared.refusal.Refusal.{Refusal}
use Rattle.language_base.specs.declared.rule.Rule.{Rule}
use Rattle.language_base.specs.declared.rule.Rule.TheVariants.{Choice, Compose, Empty, Iter, Rates}
use Rattle.language_base.specs.declared.rule.Rule.TheVariants.{Reach, Split}
use Rattle.item_schema.specs.declared.column.Column.{Column}
use Rattle.predicate_cells.specs.Met.{IsMet, IsUnmet}
use Rattle.predicates.specs.Predicates.{Predicate}
use Rattle.rate_equal.specs.Differences.{HaveDifference, LacksSome}
use Rattle.rate_equal.specs.Reach.{ReachPairs, ReachStates, max_reach}
use Rattle.rate_expr.specs.FirstLastFollow.{AreSetsOf}
use Rattle.rate_expr.specs.Rates.{Regex, preds_of}
use Rattle.rate_expr.specs.Readings.{AreDisjoint, AreEqual, HasAllButEmpty, HasOneFactoring}
use Rattle.rate_expr.specs.Readings.{HasTwoFactorings, HaveOneSplit, HaveTwoSplits, Overlap}
use Rattle.rate_expr.specs.Sets.{Sets}
use Rattle.query_model.specs.Queries.{Qre, atom, eps, choice, split, iter, combine, apply, compose}
use Rattle.query_model.specs.Queries.{collect}
use Rattle.query_model.specs.QueryTypes.{derived_columns, type_of}
use Rattle.query_model.specs.Rates.{rate_of}
use Rattle.query_model.specs.Rules.{Standing, free, bound}
use Rattle.query_resolver.specs.Nodes.{Node}
use Rattle.query_resolver.specs.Steps.{refusal}

-- words lead to too many pairs of states of the automata of two rates
abbrev pub ReachManyPairs : List Column → Regex → Regex → Type 0
ReachManyPairs columns r s = (first : Sets) × (second : Sets) × AreSetsOf first r
    × AreSetsOf second s × ReachPairs columns first second (max_reach + 1)

-- words lead to too many states of the automaton of a rate
abbrev pub ReachManyStates : List Column → Regex → Type 0
ReachManyStates columns r =
    (sets : Sets) × AreSetsOf sets r × ReachStates columns sets (max_reach + 1)

-- the first rule that the rates of a combination's operands break, or none
abbrev pub BreaksEqual : List Column → Regex → Regex → Option Rule → Type 0
BreaksEqual columns r s (Some Reach) = ReachManyPairs columns r s
BreaksEqual columns r s (Some Rates) = (ReachManyPairs columns r s → ⊥) × HaveDifference columns r s
BreaksEqual columns r s None = (ReachManyPairs columns r s → ⊥) × AreEqual columns r s
BreaksEqual columns r s _ = ⊥

-- the same of the rate of a composition's right operand, which is checked only where the
-- composition is bound: there its value may never be missing
abbrev pub BreaksFed : Standing → List Column → Regex → Option Rule → Type 0
BreaksFed free columns r None = Unit {0}
BreaksFed bound columns r (Some Reach) = ReachManyStates columns r
BreaksFed bound columns r (Some Compose) = (ReachManyStates columns r → ⊥) × LacksSome columns r
BreaksFed bound columns r None = (ReachManyStates columns r → ⊥) × HasAllButEmpty columns r
BreaksFed _ columns r _ = ⊥

-- some item meets each of the predicates, or none meets one of them
abbrev pub BreaksMet : List Column → List Predicate → Option Rule → Type 0
BreaksMet columns preds (Some Empty) =
    (pred : Predicate) × Contains preds pred × IsUnmet columns pred
BreaksMet columns preds None = AllByRecursion (IsMet columns) preds
BreaksMet columns preds _ = ⊥

-- the first rule of words that a query over these columns breaks at its root, or none
abbrev pub BreaksAt : List Column → Standing → Qre → Option Rule → Type 0
BreaksAt columns standing (atom pred expression) (Some Empty) = IsUnmet columns pred
BreaksAt columns standing (atom pred expression) None = IsMet columns pred
BreaksAt columns standing (eps number) None = Unit {0}
BreaksAt columns standing (choice f g) (Some Choice) = Overlap columns (rate_of f) (rate_of g)
BreaksAt columns standing (choice f g) None = AreDisjoint columns (rate_of f) (rate_of g)
BreaksAt columns standing (split f g expression) (Some Split) =
    HaveTwoSplits columns (rate_of f) (rate_of g)
BreaksAt columns standing (split f g expression) None = HaveOneSplit columns (rate_of f) (rate_of g)
BreaksAt columns standing (iter f number expression) (Some Iter) =
    HasTwoFactorings columns (rate_of f)
BreaksAt columns standing (iter f number expression) None = HasOneFactoring columns (rate_of f)
BreaksAt columns standing (combine f g expression) broken =
    BreaksEqual columns (rate_of f) (rate_of g) broken
BreaksAt columns standing (apply f expression) None = Unit {0}
BreaksAt columns standing (compose f g) broken =
    BreaksFed standing (derived_columns (type_of columns f)) (rate_of g) broken
BreaksAt columns standing (collect chosen sync rate f) broken =
    BreaksMet columns (preds_of rate) broken
BreaksAt columns standing _ _ = ⊥

-- the same of a node
abbrev pub Breaks : Node → Option Rule → Type 0
Breaks node broken = BreaksAt node.columns node.standing node.query broken

-- the refusal by the first node that breaks a rule, or none
abbrev pub FirstBroken : List Node → Option Refusal → Type 0
FirstBroken (node ∷ nodes) why =
    ((rule : Rule) × Breaks node (Some rule) × (why ≡ Some (refusal rule node.place)))
    ⊎ (Breaks node None × FirstBroken nodes why)
FirstBroken [] why = why ≡ None
