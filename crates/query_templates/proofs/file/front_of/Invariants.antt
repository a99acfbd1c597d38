use Rattle.std.proofs.Common.{◌≡◌, [], length}
use Rattle.query_trees.specs.Trees.{trees_of}
use Rattle.query_templates.specs.File.{plain_after, refusal_after}
use Rattle.query_templates.specs.Origins.{origins_after}
use Rattle.query_templates.specs.Plain.{templates_of}
use Rattle.query_templates.proofs.file.front_of.Given as goal

abbrev pub decreases-definitions : goal.decreases-definitions
decreases-definitions l = length l.rest

-- what is left after the definitions so far decides
abbrev pub invariant-definitions : goal.invariant-definitions
invariant-definitions l = record {
  plain : plain_after l.text [] (trees_of l.trees)
      ≡ plain_after l.text (templates_of l.templates.items) (trees_of l.rest);
  refusal : refusal_after l.text [] 0 (trees_of l.trees)
      ≡ refusal_after l.text (templates_of l.templates.items) l.used (trees_of l.rest);
  origins : origins_after l.text [] (trees_of l.trees)
      ≡ origins_after l.text (templates_of l.templates.items) (trees_of l.rest);
}
