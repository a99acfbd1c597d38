use Rattle.std.proofs.Common.{ℕ, ◌<◌, get_or}
use Rattle.rate_equal.specs.Endings.{Agree}
use Rattle.rate_equal.specs.declared.pair.Pair.{Pair}
use Rattle.rate_equal.proofs.equality.agree.Given as goal

-- both agree in the pairs before this one
abbrev pub invariant-pairs : goal.invariant-pairs
invariant-pairs l = (k : ℕ) (d : Pair) → k < l.pair-index
    → Agree l.first.sets l.second.sets (get_or l.pairs k d)
