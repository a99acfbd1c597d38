use Rattle.std.proofs.Common.{◌≡◌, take}
use Rattle.query_trees.specs.Trees.{trees_of}
use Rattle.query_templates.proofs.copies.+copy.Given as goal

abbrev pub invariant-copies_of-trees : goal.invariant-copies_of-trees
invariant-copies_of-trees l = trees_of l.copies.items ≡ trees_of (take l.tree-index l.trees)
