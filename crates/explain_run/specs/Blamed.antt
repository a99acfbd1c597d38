-- For the prover. The drawing that is made for a blame.
use Rattle.std.specs.Prelude.{◌≡◌, ℕ, List}
use Rattle.language_base.specs.declared.rule.Rule.{Rule}
use Rattle.ambiguity_example.specs.Shows.{Shown}
use Rattle.drawn_example.specs.Drawings.{drawing, readers_of}
use Rattle.query_compiler.specs.Stops.{IsShownFor}
use Rattle.type_checker.specs.Blames.{IsBlameAt}
use Rattle.query_resolver.specs.Nodes.{Node}
use Rattle.type_checker.specs.declared.blame.Blame.{Blame}

-- it draws a shortest word of two readings such as the rule forbids at the node that is blamed
abbrev pub DrawsBlame : Blame → List ℕ → Type 0
DrawsBlame blame drawn = (word : Shown) × IsShownFor blame word
    × ((node : Node) (broken : Rule) → (at : IsBlameAt node broken blame)
    → drawn ≡ drawing node.columns (readers_of at.question) word)
