use Rattle.std.proofs.Common.{◌≡◌, ◌++◌, not, map, take, drop}
use Rattle.predicate_cells.proofs.truths.negated.Given as goal

-- the truths so far are negated, and the others as they were
abbrev pub invariant-loop-at : goal.invariant-loop-at
invariant-loop-at l =
    l.truths.items ≡ map not (take l.at l.fn.truths.items) ++ drop l.at l.fn.truths.items
