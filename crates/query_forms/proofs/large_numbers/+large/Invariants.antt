use Rattle.std.proofs.Common.{◌+◌, drop}
use Rattle.query_trees.specs.Trees.{none, tree_before, trees_of}
use Rattle.query_forms.proofs.Larges.{Left}
use Rattle.query_forms.proofs.Parts.{weight}
use Rattle.query_forms.proofs.large_numbers.+large.Given as goal

abbrev pub decreases-large_in : goal.decreases-large_in
decreases-large_in l = weight (tree_before l.tree.now none)

abbrev pub decreases-first_large : goal.decreases-first_large
decreases-first_large l = weight (trees_of l.trees.now) + 1

-- the trees from the index on decide
abbrev pub invariant-first_large-trees : goal.invariant-first_large-trees
invariant-first_large-trees l = Left l.text l.trees (drop l.tree-index l.trees)
