use Rattle.std.proofs.Common.{◌≡◌, drop, take}
use Rattle.query_trees.specs.Trees.{trees_of}
use Rattle.query_templates.specs.Expansion.{expanded}
use Rattle.query_templates.specs.File.{refused_top}
use Rattle.query_templates.specs.Plain.{templates_of}
use Rattle.query_templates.proofs.file.plain_of.Given as goal

-- the terms so far are made, and those from the index on decide
abbrev pub invariant-trees : goal.invariant-trees
invariant-trees l = record {
  plain : trees_of l.plain.items
      ≡ expanded l.text (templates_of l.templates) (trees_of (take l.tree-index l.trees));
  refusal : refused_top l.text (templates_of l.templates) l.fn.used (trees_of l.trees)
      ≡ refused_top l.text (templates_of l.templates) l.used
      (trees_of (drop l.tree-index l.trees));
}
