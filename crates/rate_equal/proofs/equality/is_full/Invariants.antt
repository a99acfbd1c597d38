use Rattle.std.proofs.Common.{ℕ, ◌<◌, get_or}
use Rattle.rate_equal.specs.Endings.{IsFull}
use Rattle.rate_equal.specs.declared.pair.Pair.{Pair}
use Rattle.rate_equal.proofs.equality.is_full.Given as goal

-- words may end in the states before this one
abbrev pub invariant-pairs : goal.invariant-pairs
invariant-pairs l = (k : ℕ) (d : Pair) → k < l.pair-index → IsFull l.nfa.sets (get_or l.pairs k d)
