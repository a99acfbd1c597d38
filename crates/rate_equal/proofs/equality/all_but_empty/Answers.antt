use Rattle.std.proofs.Common.{arith}
use Rattle.rate_equal.proofs.Differing.{no_more_states}
use Rattle.rate_equal.proofs.Verdicts.{full_says}
use Rattle.rate_equal.proofs.equality.all_but_empty.Goals as goal

pub returns-clause-answer : goal.returns-clause-answer
returns-clause-answer c =
    λ r of_r. full_says c.args.nfa.now c.args.nfa.now _ c.in_ok-pairs.ensures.all
    r of_r _ (rw c.as_slice.ensures.keys at c.is_full.ensures)

pub returns-clause-few : goal.returns-clause-few
returns-clause-few c =
    no_more_states c.args.nfa.now c.args.nfa.now _ c.in_ok-pairs.ensures.all _ (omega arith)
