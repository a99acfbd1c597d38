use Rattle.std.proofs.Common.{take}
use Rattle.std.specs.Option.{option_copied}
use Rattle.query_trees.specs.Trees.{trees_of}
use Rattle.query_templates.specs.Made.{AreExpanded}
use Rattle.query_templates.specs.Plain.{templates_of}
use Rattle.query_templates.proofs.expansion.+expand.Given as goal

abbrev pub invariant-expanded_all-trees : goal.invariant-expanded_all-trees
invariant-expanded_all-trees l =
    AreExpanded l.text (templates_of l.templates) (option_copied l.parameters) l.place
    (trees_of (take l.tree-index l.trees)) (trees_of l.made.items)
