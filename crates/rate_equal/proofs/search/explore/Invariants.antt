use Rattle.std.proofs.Common.{◌-◌}
use Rattle.rate_equal.specs.Letters.{AreLetters}
use Rattle.rate_equal.specs.Reach.{max_reach}
use Rattle.rate_equal.specs.Trails.{IsTrailOf}
use Rattle.rate_equal.proofs.Gone.{AreGone}
use Rattle.rate_equal.proofs.Searched.{IsSearched}
use Rattle.rate_equal.proofs.search.explore.Given as goal

abbrev pub invariant-pairs : goal.invariant-pairs
invariant-pairs l = record {
  searched : IsSearched l.first l.second l.pairs.keys l.next;
  gone : AreGone l.first l.second l.pairs.keys l.trail.gone.keys;
  letters : AreLetters l.first l.second l.alphabet.letters.items;
  trail : IsTrailOf l.alphabet.letters.items l.pairs.keys l.trail;
}

-- how many pairs may still be met
abbrev pub decreases-pairs : goal.decreases-pairs
decreases-pairs l = max_reach - l.next
