use Rattle.std.proofs.Common.{take}
use Rattle.query_trees.specs.Trees.{Trees, trees_of}
use Rattle.query_templates.specs.Expansion.{filled}
use Rattle.query_templates.specs.Measured.{AreExtents, IsExtentOf}
use Rattle.query_templates.specs.Plain.{plain_template}
use Rattle.query_templates.proofs.measure.+measure_body.Given as goal

-- the extent of the trees so far
abbrev pub invariant-filled_extents-trees : goal.invariant-filled_extents-trees
invariant-filled_extents-trees l =
    (arguments : Trees) → AreExtents l.extents arguments
    → IsExtentOf (filled l.text (plain_template l.template) arguments
    (trees_of (take l.tree-index l.trees))) l.sum
