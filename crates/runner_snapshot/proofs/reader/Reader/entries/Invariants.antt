use Rattle.std.proofs.Common.{◌≡◌, ◌-◌}
use Rattle.runner_snapshot.specs.Reading.{repeat_at, waiting_at}
use Rattle.runner_snapshot.proofs.Repeating.{with_front}
use Rattle.runner_snapshot.proofs.reader.Reader.entries.Given as goal

abbrev pub invariant-entries : goal.invariant-entries
invariant-entries l =
    with_front l.entries (repeat_at waiting_at (l.count - l.counter) l.self.rest.now)
    ≡ repeat_at waiting_at l.count l.initial.self.rest.now
