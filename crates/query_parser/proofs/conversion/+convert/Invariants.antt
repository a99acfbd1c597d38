use Rattle.std.proofs.Common.{take}
use Rattle.query_trees.specs.Trees.{trees_of}
use Rattle.query_forms.specs.Terms.{Say}
use Rattle.query_parser.specs.Plain.{terms_of}
use Rattle.query_parser.proofs.conversion.+convert.Given as goal

abbrev pub invariant-terms_of-trees : goal.invariant-terms_of-trees
invariant-terms_of-trees l =
    Say l.text (trees_of (take l.tree-index l.trees)) (terms_of l.terms.items)
