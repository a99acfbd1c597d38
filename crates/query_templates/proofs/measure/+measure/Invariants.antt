use Rattle.std.proofs.Common.{take}
use Rattle.query_trees.specs.Trees.{trees_of}
use Rattle.query_templates.specs.Measured.{AreMeasured}
use Rattle.query_templates.specs.Plain.{templates_of}
use Rattle.query_templates.proofs.measure.+measure.Given as goal

-- the extents of the trees so far, none of which is too large
abbrev pub invariant-measured_all-trees : goal.invariant-measured_all-trees
invariant-measured_all-trees l =
    AreMeasured l.text (templates_of l.templates) (trees_of (take l.tree-index l.trees))
    (record { each = l.each; all = l.all })
