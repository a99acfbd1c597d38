-- The key of the entry that is looked at lies within the bytes.
use Rattle.std.proofs.Common.{◌<◌, length, arith}
use Rattle.value_ops.proofs.KeyBytesLaws.{left_within}
use Rattle.value_ops.proofs.entries.Entries.get.Goals as goal

pub slice_bounds-kept-end : goal.slice_bounds-kept-end
slice_bounds-kept-end c =
    let items = c.deref-entry-items.result.now in
    let within : c.entries.entry-index < length items = omega arith in
    rw c.as_slice.ensures.value
    (left_within c.entries.start items c.entries.entry-index _ _ within c.entries.invariant.0)
