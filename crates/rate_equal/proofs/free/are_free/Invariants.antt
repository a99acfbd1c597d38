use Rattle.std.proofs.Common.{ℕ, ◌<◌, get_or}
use Rattle.rate_equal.specs.Free.{HasOther}
use Rattle.rate_equal.specs.declared.letters.Letter.{Letter}
use Rattle.rate_equal.proofs.free.are_free.Given as goal

-- each letter before this one can lack them
abbrev pub invariant-letters : goal.invariant-letters
invariant-letters l = (k : ℕ) (d : Letter) → k < l.letter-index
    → HasOther l.letters l.positions (get_or l.letters k d)
