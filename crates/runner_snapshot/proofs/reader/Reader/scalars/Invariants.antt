use Rattle.std.proofs.Common.{◌≡◌, ◌-◌}
use Rattle.runner_snapshot.specs.Reading.{repeat_at, scalar_at}
use Rattle.runner_snapshot.proofs.Repeating.{with_front}
use Rattle.runner_snapshot.proofs.reader.Reader.scalars.Given as goal

abbrev pub invariant-scalars : goal.invariant-scalars
invariant-scalars l =
    with_front l.scalars.items (repeat_at scalar_at (l.count - l.counter) l.self.rest.now)
    ≡ repeat_at scalar_at l.count l.initial.self.rest.now
