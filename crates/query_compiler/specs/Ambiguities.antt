-- Statement. The words with two readings for which a query text is refused.
use Rattle.std.specs.Prelude.{◌≡◌, ℕ, List, Some, Ok}
use Rattle.ambiguity_example.specs.Shows.{IsShortestShown, Question, Shown}
use Rattle.language_base.specs.declared.refusal.Refusal.{Refusal}
use Rattle.language_base.specs.declared.rule.Rule.{Rule}
use Rattle.query_lets.specs.Unfolded.{unfolded}
use Rattle.query_model.specs.Queries.{Qre}
use Rattle.query_model.specs.Rules.{free}
use Rattle.query_parser.specs.Reading.{IsFileOf}
use Rattle.query_resolver.specs.Layouts.{layout_of}
use Rattle.query_resolver.specs.Measures.{measured}
use Rattle.query_resolver.specs.Nodes.{Node, nodes_in, places_of}
use Rattle.query_resolver.specs.Steps.{refusal}
use Rattle.query_syntax.specs.Files.{program_terms}
use Rattle.query_syntax.specs.Programs.{Program}
use Rattle.type_checker.specs.Blames.{IsFirstBroken, question_of}

-- the first node of the text's query that breaks a rule of words, and the rule
pub record IsRefusedAt (text : List ℕ) (node : Node) (broken : Rule) : Type 0 where
  pub program : Program
  pub written : IsFileOf text (program_terms program)
  pub query : Qre
  pub measured : measured program ≡ Ok query
  pub first : IsFirstBroken
      (nodes_in (layout_of program.stream).columns free query (places_of (unfolded program)))
      node broken

-- the refusal is by that rule at that node; the word has two readings such as the rule forbids
-- there, and no shorter word has
pub record ShowsWhy (text : List ℕ) (why : Refusal) (shown : Shown) : Type 0 where
  pub node : Node
  pub broken : Rule
  pub at : IsRefusedAt text node broken
  pub why_is : why ≡ refusal broken node.place
  pub question : Question
  pub asked : question_of node.query ≡ Some question
  pub shortest : IsShortestShown node.columns question shown
