-- For the prover. What a search remembers of the ways on that it has met.
use Rattle.std.specs.Prelude.{◌≡◌, ◌≤◌, ◌⊎◌, ℕ, List, length}
use Rattle.std.specs.List.{Contains}
use Rattle.rate_equal.specs.Holding.{AreHeld}
use Rattle.rate_equal.specs.Targets.{AreFound, AreKnown}
use Rattle.rate_equal.specs.declared.letters.Letter.{Letter}
use Rattle.rate_equal.specs.declared.pair.Pair.{Pair}
use Rattle.rate_equal.specs.declared.trail.Trail.{Trail}

-- the targets along the known ways are among the pairs, and the pairs that were entered are in the
-- rows of their positions
pub record IsTrailOf (letters : List Letter) (pairs : List Pair) (trail : Trail) : Type 0 where
  pub known : AreKnown letters pairs trail.known.items
  pub held : AreHeld trail.holders.first.items trail.holders.second.items pairs trail.holders.count
  pub entered : trail.holders.count ≤ length pairs

-- the ways were met before and nothing changed, or all targets along them are now among the pairs
abbrev pub GoesAlong : List Letter → ℕ × ℕ → List (ℕ × ℕ) → List Pair → List Pair → Type 0
GoesAlong letters ways gone old new = (Contains gone ways × (new ≡ old))
    ⊎ ((places : List ℕ) × AreFound letters ways old new places)
