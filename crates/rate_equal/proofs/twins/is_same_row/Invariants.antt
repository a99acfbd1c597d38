use Rattle.std.proofs.Common.{◌≡◌, ℕ, ◌+◌, ◌*◌, ◌<◌, get_or}
use Rattle.rate_equal.specs.PlaceSets.{block_count}
use Rattle.rate_equal.proofs.twins.is_same_row.Given as goal

abbrev pub invariant-parts : goal.invariant-parts
invariant-parts l = (block : ℕ) → block < l.block
    → get_or l.first (l.one * block_count + block) 0
    ≡ get_or l.second (l.other * block_count + block) 0
