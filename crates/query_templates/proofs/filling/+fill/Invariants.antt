use Rattle.std.proofs.Common.{◌≡◌, take}
use Rattle.query_trees.specs.Trees.{trees_of}
use Rattle.query_templates.specs.Expansion.{filled}
use Rattle.query_templates.specs.Plain.{plain_template}
use Rattle.query_templates.proofs.filling.+fill.Given as goal

abbrev pub invariant-filled_all-trees : goal.invariant-filled_all-trees
invariant-filled_all-trees l =
    trees_of l.made.items ≡ filled l.text (plain_template l.template) (trees_of l.arguments)
    (trees_of (take l.tree-index l.trees))
