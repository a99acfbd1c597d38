use Rattle.std.proofs.Common.{◌≡◌, ◌++◌, take}
use Rattle.query_trees.specs.Trees.{trees_of}
use Rattle.query_templates.specs.Origins.{node_places}
use Rattle.query_templates.proofs.places.+places.Given as goal

-- the places so far
abbrev pub invariant-add_all-trees : goal.invariant-add_all-trees
invariant-add_all-trees l =
    l.places.items
    ≡ l.initial.places.items ++ node_places (trees_of (take l.tree-index l.trees))
