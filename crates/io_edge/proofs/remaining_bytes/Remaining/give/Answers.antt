use Rattle.std.proofs.Common.{◌≡◌, length, arith, length-take}
use Rattle.io_edge.proofs.Copies.{copied_front}
use Rattle.io_edge.proofs.remaining_bytes.Remaining.give.Goals as goal

pub returns-clause-bytes : goal.returns-clause-bytes
returns-clause-bytes c =
    let size : length c.copy_from_slice.new.self ≡ c.min-count.result =
    grind (arith, length-take, c.copy_from_slice.ensures.len) in
    rw (← c.self.view_is)
    (copied_front _ _ _ _ _ (rw c.deref.ensures.value at c.copy_from_slice.ensures.after) size)
