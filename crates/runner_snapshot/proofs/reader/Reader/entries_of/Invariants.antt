use Rattle.std.proofs.Common.{◌≡◌, ◌-◌}
use Rattle.value_ops.specs.Entries.{keys_of}
use Rattle.runner_snapshot.specs.Reading.{more_entries_at}
use Rattle.runner_snapshot.proofs.reader.Reader.entries_of.Given as goal

abbrev pub invariant-entries : goal.invariant-entries
invariant-entries l =
    (l.names.keys ≡ keys_of l.table)
    × (more_entries_at l.table (l.count - l.counter) l.self.rest.now
    ≡ more_entries_at l.initial.table l.count l.initial.self.rest.now)
