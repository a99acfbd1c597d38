use Rattle.std.proofs.Common.{◌≡◌, ℕ, ◌<◌, ◌≤◌, ◌&&◌, false, length, get_or}
use Rattle.predicate_cells.proofs.truths.both.Given as goal

-- the truths so far are joined, and the others as they were
abbrev pub invariant-loop-at : goal.invariant-loop-at
invariant-loop-at l = record {
  same_length : length l.truths.items ≡ length l.fn.truths.items;
  joined : (k : ℕ) → k < l.at → get_or l.truths.items k false
      ≡ (get_or l.fn.truths.items k false && get_or l.others k false);
  kept : (k : ℕ) → l.at ≤ k → get_or l.truths.items k false ≡ get_or l.fn.truths.items k false;
}
