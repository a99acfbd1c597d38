use Rattle.std.proofs.Common.{take}
use Rattle.std.specs.List.{flat_map}
use Rattle.runner_snapshot.specs.Bytes.{waiting_bytes}
use Rattle.runner_snapshot.specs.Got.{Gets}
use Rattle.runner_snapshot.proofs.entries.Entries.put_all.Given as goal

abbrev pub invariant-entries : goal.invariant-entries
invariant-entries g l =
    Gets g.O.Output.got l.initial.out (flat_map waiting_bytes (take l.entry-index l.entries)) l.out
