use Rattle.std.proofs.Common.{◌≡◌, ◌++◌, length, take}
use Rattle.std.specs.List.{flat_map}
use Rattle.runner_snapshot.specs.Bytes.{entry_bytes, in_four}
use Rattle.runner_snapshot.specs.Got.{Gets}
use Rattle.runner_snapshot.proofs.value_bytes.put_table.Given as goal

abbrev pub invariant-entries : goal.invariant-entries
invariant-entries g l =
    Gets g.O.Output.got l.fn.out
    (in_four (length l.table) ++ flat_map entry_bytes (take l.i l.table)) l.out
    × (l.i-end ≡ length l.table)
