use Rattle.std.proofs.Common.{ℕ, ◌<◌, get_or}
use Rattle.rate_expr.specs.Sets.{Has}
use Rattle.rate_equal.specs.declared.letters.Letter.{Letter}
use Rattle.rate_equal.proofs.letters.common_of.Given as goal

-- each letter before this one has the positions
abbrev pub invariant-letters : goal.invariant-letters
invariant-letters l = (k : ℕ) (d : Letter) → k < l.letter-index
    → ((position : ℕ) → Has l.common.0 position → Has (get_or l.letters k d).first position)
    × ((position : ℕ) → Has l.common.1 position → Has (get_or l.letters k d).second position)
