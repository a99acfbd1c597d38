use Rattle.std.proofs.Common.{◌≡◌, ◌++◌, [], ◌∷◌, length, take}
use Rattle.std.specs.List.{flat_map}
use Rattle.runner_snapshot.specs.Bytes.{scalar_bytes}
use Rattle.runner_snapshot.specs.Got.{Gets}
use Rattle.runner_snapshot.proofs.value_bytes.put_parts.Given as goal

abbrev pub invariant-parts : goal.invariant-parts
invariant-parts g l =
    Gets g.O.Output.got l.fn.out
    ((length l.parts ∷ []) ++ flat_map scalar_bytes (take l.place l.parts)) l.out
    × (l.place-end ≡ length l.parts)
