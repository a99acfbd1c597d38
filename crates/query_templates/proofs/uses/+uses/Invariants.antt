use Rattle.std.proofs.Common.{◌≡◌, take, None}
use Rattle.std.specs.Option.{option_copied}
use Rattle.query_trees.specs.Trees.{trees_of}
use Rattle.query_templates.specs.Plain.{templates_of}
use Rattle.query_templates.specs.Uses.{first_wrong_use}
use Rattle.query_templates.proofs.uses.+uses.Given as goal

-- nothing so far is wrong
abbrev pub invariant-first_wrong_use-trees : goal.invariant-first_wrong_use-trees
invariant-first_wrong_use-trees l =
    first_wrong_use l.text (templates_of l.templates) (option_copied l.parameters)
    (trees_of (take l.tree-index l.trees)) ≡ None
