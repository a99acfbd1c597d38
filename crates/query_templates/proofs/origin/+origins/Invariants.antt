use Rattle.std.proofs.Common.{◌≡◌, ◌++◌, length, take}
use Rattle.query_trees.specs.Trees.{trees_of}
use Rattle.query_templates.specs.Expansion.{expanded}
use Rattle.query_templates.specs.Origins.{origins_of}
use Rattle.query_templates.specs.Plain.{templates_of}
use Rattle.query_templates.proofs.origin.+origins.Given as goal

-- the origins so far, where the plain terms are those of the terms
abbrev pub invariant-add_all-terms : goal.invariant-add_all-terms
invariant-add_all-terms l =
    trees_of l.plain ≡ expanded l.text (templates_of l.templates) (trees_of l.trees)
    → l.origins.items ≡ l.initial.origins.items
    ++ origins_of l.text (templates_of l.templates) (trees_of (take (length l.yielded) l.trees))
