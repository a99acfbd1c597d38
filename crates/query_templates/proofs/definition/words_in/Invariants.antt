use Rattle.std.proofs.Common.{◌≡◌, ◌++◌, List, drop}
use Rattle.std.specs.Option.{option_map}
use Rattle.language_base.specs.declared.span.Span.{Span}
use Rattle.query_trees.specs.Trees.{trees_of}
use Rattle.query_templates.specs.Definitions.{words_in}
use Rattle.query_templates.proofs.definition.words_in.Given as goal

-- the words so far, and then those from the index on
abbrev pub invariant-trees : goal.invariant-trees
invariant-trees l =
    words_in (trees_of l.trees)
    ≡ option_map (λ (more : List Span). l.words.items ++ more)
    (words_in (trees_of (drop l.tree-index l.trees)))
