-- Statement. The first node of a query that breaks a rule of words. If that rule forbids a word
-- with two readings, the node is blamed with the automata that the rule is about.
use Rattle.std.specs.Prelude.{◌≡◌, List, ◌∷◌, ◌++◌, Option, None, Some, Ok}
use Rattle.std.specs.List.{AllByRecursion}
use Rattle.ambiguity_example.specs.Asks.{Asks, ShareCells, columns_of}
use Rattle.ambiguity_example.specs.Shows as shows
use Rattle.ambiguity_example.specs.Shows.{Question}
use Rattle.ambiguity_example.specs.declared.question.Ask.{Ask}
use Rattle.ambiguity_example.specs.declared.question.Ask.TheVariants as ask
use Rattle.language_base.specs.declared.refusal.Refusal.{Refusal}
use Rattle.language_base.specs.declared.rule.Rule.{Rule}
use Rattle.language_base.specs.declared.rule.Rule.TheVariants as rule
use Rattle.query_lets.specs.Unfolded.{unfolded}
use Rattle.query_model.specs.Queries.{Qre, choice, split, iter}
use Rattle.query_model.specs.Rates.{rate_of}
use Rattle.query_model.specs.Rules.{free}
use Rattle.query_syntax.specs.Programs.{Program}
use Rattle.query_resolver.specs.Measures.{measured}
use Rattle.query_resolver.specs.Layouts.{layout_of}
use Rattle.query_resolver.specs.Nodes.{Node, nodes_in, places_of}
use Rattle.query_resolver.specs.Steps.{refusal}
use Rattle.type_checker.specs.WordRules.{Breaks}
use Rattle.type_checker.specs.declared.blame.Ambiguity.{Ambiguity}
use Rattle.type_checker.specs.declared.blame.Ambiguity.TheVariants.{Choice, Split, Iter}
use Rattle.type_checker.specs.declared.blame.Blame.{Blame}

-- the node breaks the rule, and no node before it breaks one
pub record IsFirstBroken (nodes : List Node) (node : Node) (broken : Rule) : Type 0 where
  pub before : List Node
  pub after : List Node
  pub whole : nodes ≡ before ++ node ∷ after
  pub kept : AllByRecursion (λ earlier. Breaks earlier None) before
  pub breaks : Breaks node (Some broken)

-- the rule forbids a word with two readings
abbrev pub ForbidsTwoReadings : Rule → Type 0
ForbidsTwoReadings rule.Choice = Unit {0}
ForbidsTwoReadings rule.Split = Unit {0}
ForbidsTwoReadings rule.Iter = Unit {0}
ForbidsTwoReadings _ = ⊥

-- what such a rule asks about the rates of a query's operands
abbrev pub question_of : Qre → Option Question
question_of (choice f g) = Some (shows.choice (rate_of f) (rate_of g))
question_of (split f g expression) = Some (shows.split (rate_of f) (rate_of g))
question_of (iter f number expression) = Some (shows.iter (rate_of f))
question_of _ = None

-- the refusal of a query by such a rule
abbrev pub refusal_of : Blame → Refusal
refusal_of blame = blame.refusal

abbrev pub ambiguity_of : Blame → Ambiguity
ambiguity_of blame = blame.ambiguity

-- the question has the same automata
abbrev pub IsAskOf : Ambiguity → Ask → Type 0
IsAskOf (Choice operands) (ask.Choice first second) =
    (first.now ≡ operands.value.left) × (second.now ≡ operands.value.right)
IsAskOf (Split operands) (ask.Split first second) =
    (first.now ≡ operands.value.left) × (second.now ≡ operands.value.right)
IsAskOf (Iter operand) (ask.Iter nfa) = nfa.now ≡ operand.value
IsAskOf _ _ = ⊥

-- the blame has the refusal at the node's place, and the automata that the rule is about, over the
-- node's columns
pub record IsBlameAt (node : Node) (broken : Rule) (blame : Blame) : Type 0 where
  pub refusal : refusal_of blame ≡ refusal broken node.place
  pub question : Question
  pub asked : question_of node.query ≡ Some question
  pub automata : (of_it : Ask) → IsAskOf (ambiguity_of blame) of_it
      → Asks of_it question × ShareCells of_it × (columns_of of_it ≡ node.columns)

-- the blame is of the first node of the program's query that breaks a rule of words
pub record IsBlameOf (program : Program) (blame : Blame) : Type 0 where
  pub query : Qre
  pub measured : measured program ≡ Ok query
  pub node : Node
  pub broken : Rule
  pub first : IsFirstBroken
      (nodes_in (layout_of program.stream).columns free query (places_of (unfolded program)))
      node broken
  pub at : IsBlameAt node broken blame
