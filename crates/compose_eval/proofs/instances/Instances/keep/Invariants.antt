use Rattle.std.proofs.Common.{◌≡◌, length}
use Rattle.std.specs.Vec.{vec_capacity}
use Rattle.compose_eval.specs.Followers.{IsKept}
use Rattle.compose_eval.proofs.Parting.{HasParted}
use Rattle.compose_eval.proofs.instances.Instances.keep.Given as goal

-- this many instances have been seen, and all stay in their room
abbrev pub invariant-instances : goal.invariant-instances
invariant-instances g l =
    HasParted (goal.F-post g) l.fn.live l.fn.self.live l.fn.self.idle l.counter l.place
    l.self-inside.live.items l.self-inside.idle.items
    × IsKept l.self-inside.live.items l.self-inside.idle.items l.self-inside.room
    (vec_capacity l.self-inside.live) (vec_capacity l.self-inside.idle)
    × (l.self-inside.room ≡ l.fn.self.room) × (l.end ≡ length l.fn.self.live) × (l.live ≡ l.fn.live)
