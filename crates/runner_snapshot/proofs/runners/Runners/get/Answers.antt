use Rattle.runner_snapshot.specs.declared.runners.Runners.{out-Runners}
use Rattle.runner_snapshot.specs.Plain.{runners_of}
use Rattle.runner_snapshot.proofs.Rows.{fed_of, runners_are, seen_at, seen_within}
use Rattle.runner_snapshot.proofs.runners.Runners.get.Goals as goal

pub index-instance-requires : goal.index-instance-requires
index-instance-requires c =
    seen_within fed_of c.args.i (out-Runners c.args.self.now).runners (runners_of c.args.self.now)
    c.requires (runners_are c.args.self.now)

pub returns : goal.returns
returns c =
    seen_at fed_of c.args.i (out-Runners c.args.self.now).runners (runners_of c.args.self.now)
    c.index-instance.result.now c.requires (runners_are c.args.self.now) c.index-instance.ensures
