use Rattle.std.proofs.Common.{◌≡◌, ℕ, ◌<◌, ◌≤◌, length, get_or}
use Rattle.rate_expr.specs.Parts.{linked}
use Rattle.rate_expr.proofs.links.link.Given as goal

-- the masks below the position are linked, and the others are as they were
abbrev pub invariant-loop-position : goal.invariant-loop-position
invariant-loop-position l = record {
  each : length l.follow ≡ length l.initial.follow;
  below : (k : ℕ) → k < l.position
      → get_or l.follow k 0 ≡ linked l.from l.to k (get_or l.initial.follow k 0);
  others : (k : ℕ) → l.position ≤ k → get_or l.follow k 0 ≡ get_or l.initial.follow k 0;
}
