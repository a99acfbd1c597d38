use Rattle.std.proofs.Common.{arith, subst}
use Rattle.rate_expr.specs.Sets.{Has}
use Rattle.rate_equal.specs.declared.letters.Letter.{Letter}
use Rattle.rate_equal.proofs.Counterparts.{common_next}
use Rattle.rate_equal.proofs.letters.common_of.Goals as goal

pub letters-preserved : goal.letters-preserved
letters-preserved c = λ k d lt. common_next _ _ _ c.letters.invariant _ k d c.letters-test.true lt

pub returns : goal.returns
returns c = λ letter (k, lt, at).
    let each = c.letters.invariant k letter (omega (arith, lt, c.letters-test.false)) in (
      λ position has. subst (λ (l : Letter). Has l.first position) at (each.0 position has),
      λ position has. subst (λ (l : Letter). Has l.second position) at (each.1 position has),
    )
