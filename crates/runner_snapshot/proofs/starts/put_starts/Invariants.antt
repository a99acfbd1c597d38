use Rattle.std.proofs.Common.{take}
use Rattle.std.specs.List.{flat_map}
use Rattle.runner_snapshot.specs.Bytes.{in_eight}
use Rattle.runner_snapshot.specs.Got.{Gets}
use Rattle.runner_snapshot.proofs.starts.put_starts.Given as goal

abbrev pub invariant-starts : goal.invariant-starts
invariant-starts g l =
    Gets g.O.Output.got l.initial.out (flat_map in_eight (take l.start-index l.starts)) l.out
