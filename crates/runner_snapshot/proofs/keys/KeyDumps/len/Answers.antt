use Rattle.runner_snapshot.specs.declared.keys.KeyDumps.{out-KeyDumps}
use Rattle.runner_snapshot.specs.Plain.{keys_of}
use Rattle.runner_snapshot.proofs.Rows.{keyed_of, keys_are, seen_count}
use Rattle.runner_snapshot.proofs.keys.KeyDumps.len.Goals as goal

pub returns : goal.returns
returns c =
    seen_count keyed_of c.len.result (out-KeyDumps c.args.self.now).keys (keys_of c.args.self.now)
    c.len.ensures (keys_are c.args.self.now)
