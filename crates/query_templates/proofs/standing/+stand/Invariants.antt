use Rattle.std.proofs.Common.{◌≡◌, Some, drop}
use Rattle.query_trees.specs.Trees.{trees_of}
use Rattle.query_templates.specs.Plain.{plain_template}
use Rattle.query_templates.specs.Standings.{both, stand}
use Rattle.query_templates.proofs.standing.+stand.Given as goal

-- what is known, and then the terms from the index on, decide
abbrev pub invariant-stand_all-trees : goal.invariant-stand_all-trees
invariant-stand_all-trees l =
    both (Some l.fn.known.items)
    (stand l.text (plain_template l.template) l.places (trees_of l.trees))
    ≡ both (Some l.known.items) (stand l.text (plain_template l.template)
    (drop l.index l.places) (trees_of (drop l.index l.trees)))
