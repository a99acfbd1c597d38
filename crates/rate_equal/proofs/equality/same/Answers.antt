use Rattle.std.proofs.Common.{arith}
use Rattle.rate_equal.proofs.Differing.{no_more_pairs}
use Rattle.rate_equal.proofs.Verdicts.{equal_says}
use Rattle.rate_equal.proofs.equality.same.Goals as goal

pub returns-clause-answer : goal.returns-clause-answer
returns-clause-answer c = λ r s of_r of_s. equal_says c.args.left.now c.args.right.now _
    c.in_ok-pairs.ensures.all r s of_r of_s _ (rw c.as_slice.ensures.keys at c.agree.ensures)

pub returns-clause-few : goal.returns-clause-few
returns-clause-few c =
    no_more_pairs c.args.left.now c.args.right.now _ c.in_ok-pairs.ensures.all _ (omega arith)
