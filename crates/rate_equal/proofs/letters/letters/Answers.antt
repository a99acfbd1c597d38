use Rattle.rate_equal.proofs.Gathered.{letters_moved}
use Rattle.rate_equal.proofs.letters.letters.Goals as goal

pub returns-clause-letters : goal.returns-clause-letters
returns-clause-letters c =
    letters_moved _ _ _ _ c.sort_unstable.ensures.permutation c.in_ok-letters.ensures.letters
