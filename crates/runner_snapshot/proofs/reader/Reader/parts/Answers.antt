use Rattle.std.proofs.Common.{◌≡◌, length, ap, ◌∙◌, arith}
use Rattle.runner_snapshot.specs.Reading.{scalar_at}
use Rattle.runner_snapshot.proofs.Repeating.{repeat_count}
use Rattle.runner_snapshot.proofs.reader.Reader.parts.Goals as goal

pub new-requires : goal.new-requires
new-requires c =
    let count : length c.deref.result.now ≡ c.in_ok-count.count =
    ap length c.deref.ensures.value
    ∙ repeat_count scalar_at c.in_ok-count.count c.byte.new.self.rest.now
    c.in_ok-scalars.scalars.items c.scalars.new.self.rest.now c.in_ok-scalars.ensures in
    (omega arith, omega arith)
