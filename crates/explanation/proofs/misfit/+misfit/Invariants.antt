use Rattle.std.proofs.Common.{◌+◌, ◌*◌, refl}
use Rattle.query_syntax.specs.declared.expression.Expression.{size-Expression}
use Rattle.explanation.specs.Misfits.{misfit_read, misfit_part}
use Rattle.explanation.proofs.SearchedParts.{IsLeft}
use Rattle.explanation.proofs.misfit.+misfit.Given as goal

abbrev pub decreases-misfit_read : goal.decreases-misfit_read
decreases-misfit_read l = 2 * size-Expression l.expression.now

abbrev pub decreases-misfit_part : goal.decreases-misfit_part
decreases-misfit_part l = 2 * goal.size-misfit_part l + 1

-- nothing is found in the parts so far
abbrev pub invariant-misfit_part-parts : goal.invariant-misfit_part-parts
invariant-misfit_part-parts l =
    IsLeft (misfit_read l.columns) (misfit_part l.columns) refl (λ part others. refl)
    l.parts l.part-index
