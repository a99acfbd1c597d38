use Rattle.std.proofs.Common.{◌≡◌, replicate, take, ◌*◌, vec_len}
use Rattle.std.specs.List.{flat_map}
use Rattle.predicate_cells.proofs.truths.block_of.Given as goal

-- the truths so far stand there
abbrev pub invariant-loop-truth : goal.invariant-loop-truth
invariant-loop-truth l =
    (l.block.items ≡ flat_map (λ truth. replicate l.width truth) (take l.truth-index l.truths))
    × (vec_len l.block ≡ l.truth-index * l.width)
