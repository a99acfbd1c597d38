use Rattle.runner_snapshot.specs.declared.runners.Runners.{out-Runners}
use Rattle.runner_snapshot.specs.Plain.{runners_of}
use Rattle.runner_snapshot.proofs.Rows.{fed_of, runners_are, seen_count}
use Rattle.runner_snapshot.proofs.runners.Runners.len.Goals as goal

pub returns : goal.returns
returns c =
    seen_count fed_of c.len.result (out-Runners c.args.self.now).runners (runners_of
    c.args.self.now)
    c.len.ensures (runners_are c.args.self.now)
