-- For the prover. Origins that are appended, term by term.
use Rattle.std.specs.Prelude.{◌≡◌, ℕ, List, ◌++◌}
use Rattle.query_trees.specs.Trees.{Trees, none, leaf, call}
use Rattle.query_templates.specs.declared.origin.Origin.{Origin}
use Rattle.query_templates.specs.Expansion.{expanded}
use Rattle.query_templates.specs.Origins.{origins_of}
use Rattle.query_templates.specs.Templates.{Template}

-- the arguments of the first term
abbrev pub arguments_of : Trees → Trees
arguments_of none = none
arguments_of (leaf token rest) = none
arguments_of (call head arguments span rest) = arguments

-- where the plain terms are those of the terms, the origins of their nodes are appended
abbrev pub AreAppended : List ℕ → List Template → Trees → Trees → List Origin → List Origin → Type 0
AreAppended text templates terms plain old new =
    plain ≡ expanded text templates terms → new ≡ old ++ origins_of text templates terms
