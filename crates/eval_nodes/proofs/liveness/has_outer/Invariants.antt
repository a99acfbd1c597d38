use Rattle.std.proofs.Common.{◌≡◌, false, length, take}
use Rattle.eval_nodes.specs.Live.{is_outer}
use Rattle.eval_nodes.proofs.liveness.has_outer.Given as goal

abbrev pub invariant-entries : goal.invariant-entries
invariant-entries l =
    (is_outer (take l.i l.held.entries) l.start ≡ false) × (l.i-end ≡ length l.held.entries)
