-- For the prover. What is found of the rules of words, as its caller needs it.
use Rattle.std.specs.Prelude.{◌≡◌, List, ◌∷◌, [], ◌++◌, None, Some}
use Rattle.language_base.specs.declared.rule.Rule.{Rule}
use Rattle.language_base.specs.declared.span.Span.{Span}
use Rattle.query_model.specs.Queries.{Qre, atom, eps, choice, split, iter, combine, apply, compose}
use Rattle.query_model.specs.Queries.{collect}
use Rattle.item_schema.specs.declared.column.Column.{Column}
use Rattle.predicate_cells.specs.Cells.{Partition}
use Rattle.rate_expr.specs.FirstLastFollow.{AreSetsOf}
use Rattle.rate_expr.specs.Paths.{AreOf}
use Rattle.rate_expr.specs.Rates.{Regex}
use Rattle.rate_expr.specs.Sets.{Sets}
use Rattle.symbolic_nfa.specs.Automata.{Automaton}
use Rattle.query_model.specs.QueryTypes.{derived_columns, type_of}
use Rattle.query_model.specs.Rates.{rate_of}
use Rattle.query_model.specs.Rules.{Standing, bound}
use Rattle.type_checker.specs.Blames.{ForbidsTwoReadings, IsBlameAt, IsFirstBroken}
use Rattle.query_resolver.specs.Nodes.{Node, Places, first_places, nodes_in}
use Rattle.query_resolver.specs.Nodes.{second_places}
use Rattle.query_resolver.specs.Steps.{refusal}
use Rattle.type_checker.specs.WordRules.{BreaksAt, BreaksFed}
use Rattle.type_checker.specs.declared.blame.Operands.{Operands}
use Rattle.type_checker.specs.declared.word_stop.WordStop.{WordStop}
use Rattle.type_checker.specs.declared.word_stop.WordStop.TheVariants as word

-- the automaton is one of the query's rate
pub record IsAutomatonOf (query : Qre) (nfa : Automaton) : Type 0 where
  pub sets : AreSetsOf nfa.sets (rate_of query)
  pub spells : AreOf nfa.sets (rate_of query)

-- the automata are those of the rates of two queries, over these cells
pub record AreOperands (cells : Partition) (f g : Qre) (operands : Operands) : Type 0 where
  pub left : IsAutomatonOf f operands.left
  pub right : IsAutomatonOf g operands.right
  pub left_cells : operands.left.cells ≡ cells
  pub right_cells : operands.right.cells ≡ cells

-- the root of a query breaks no rule of words, and the sets are those of the query's rate
pub record IsKept (columns : List Column) (query : Qre) (made : Sets) : Type 0 where
  pub rule : (standing : Standing) → BreaksAt columns standing query None
  pub sets : AreSetsOf made (rate_of query)

-- the stop is by the rule that the node breaks: a refusal, or the blame if the rule forbids a word
-- with two readings
abbrev pub IsRefusalAt : Node → Rule → WordStop → Type 0
IsRefusalAt node rule (word.Broken why) =
    (why ≡ refusal rule node.place) × (ForbidsTwoReadings rule → ⊥)
IsRefusalAt node rule (word.Ambiguous blame) = IsBlameAt node rule blame.value
IsRefusalAt node rule word.Memory = ⊥

-- the query as a node
abbrev pub node_at : List Column → Qre → Span → Standing → Node
node_at columns query span standing =
    record { columns = columns; standing = standing; query = query; place = span }

-- the stop is by the rule of words that the root of a query breaks, or out of memory
abbrev pub IsBrokenAt : List Column → Qre → Span → WordStop → Type 0
IsBrokenAt columns query span word.Memory = Unit {0}
IsBrokenAt columns query span stop = (rule : Rule) × ((standing : Standing)
    → BreaksAt columns standing query (Some rule)
    × IsRefusalAt (node_at columns query span standing) rule stop)

-- the stop is by the rule that the right operand's rate breaks in a bound composition, or out of
-- memory
abbrev pub IsUnfed : Standing → List Column → Regex → Span → WordStop → Type 0
IsUnfed standing columns r span (word.Broken why) =
    (rule : Rule) × (why ≡ refusal rule span) × BreaksFed standing columns r (Some rule)
IsUnfed standing columns r span (word.Ambiguous blame) = ⊥
IsUnfed standing columns r span word.Memory = Unit {0}

-- the nodes of the second operand of a composition, and then the composition
abbrev pub nodes_after : List Column → Standing → Qre → Qre → Places → Span → List Node
nodes_after columns standing f g places span =
    nodes_in (derived_columns (type_of columns f)) standing g places
    ++ (record { columns = columns; standing = standing; query = compose f g; place = span }) ∷ []

-- the nodes of the operands of a query
abbrev pub operand_nodes : List Column → Standing → Qre → Places → List Node
operand_nodes columns standing (atom pred expression) places = []
operand_nodes columns standing (eps number) places = []
operand_nodes columns standing (choice f g) places =
    nodes_in columns bound f (first_places places)
    ++ nodes_in columns bound g (second_places places)
operand_nodes columns standing (split f g expression) places =
    nodes_in columns bound f (first_places places)
    ++ nodes_in columns bound g (second_places places)
operand_nodes columns standing (iter f number expression) places =
    nodes_in columns bound f (first_places places)
operand_nodes columns standing (combine f g expression) places =
    nodes_in columns bound f (first_places places)
    ++ nodes_in columns bound g (second_places places)
operand_nodes columns standing (apply f expression) places =
    nodes_in columns bound f (first_places places)
operand_nodes columns standing (compose f g) places =
    nodes_in columns standing f (first_places places)
    ++ nodes_in (derived_columns (type_of columns f)) standing g (second_places places)
operand_nodes columns standing (collect column sync rate f) places =
    nodes_in columns bound f (first_places places)

-- the stop is by the first node that breaks a rule of words, or out of memory
abbrev pub IsBrokenBy : List Node → WordStop → Type 0
IsBrokenBy nodes word.Memory = Unit {0}
IsBrokenBy nodes stop =
    (node : Node) × (rule : Rule) × IsFirstBroken nodes node rule × IsRefusalAt node rule stop
