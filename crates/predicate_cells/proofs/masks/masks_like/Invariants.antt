use Rattle.std.proofs.Common.{◌≡◌, take}
use Rattle.predicate_cells.proofs.masks.masks_like.Given as goal

-- the masks so far are copied
abbrev pub invariant-loop-mask : goal.invariant-loop-mask
invariant-loop-mask l = l.copies.items ≡ take l.mask-index l.masks
