use Rattle.std.proofs.Common.{◌+◌}
use Rattle.query_trees.specs.Trees.{none, tree_before, trees_of}
use Rattle.query_forms.proofs.Left.{Left}
use Rattle.query_forms.proofs.Parts.{weight}
use Rattle.query_forms.proofs.unfit_terms.+unfit.Given as goal

abbrev pub decreases-unfit : goal.decreases-unfit
decreases-unfit l = weight (tree_before l.tree.now none)

abbrev pub decreases-first_unfit : goal.decreases-first_unfit
decreases-first_unfit l = weight (trees_of l.trees.now) + 1

-- what the iterator still has decides
abbrev pub invariant-first_unfit-terms : goal.invariant-first_unfit-terms
invariant-first_unfit-terms l =
    (goal.iterator-first_unfit-terms).can_next l.place-iterator
    × (goal.iterator-first_unfit-terms).is_finite l.place-iterator
    × Left l.text l.places l.place-iterator.a.rest.now l.trees l.place-iterator.b.rest.now
