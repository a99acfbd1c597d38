use Rattle.runner_snapshot.specs.declared.runners.Runners.{out-Runners}
use Rattle.runner_snapshot.specs.Plain.{runners_of}
use Rattle.runner_snapshot.proofs.Rows.{fed_of, runners_are, runners_made, at_err, seen_more}
use Rattle.runner_snapshot.proofs.Rows.{seen_same}
use Rattle.runner_snapshot.proofs.runners.Runners.push.Goals as goal

pub returns-in_err-push-clause-err : goal.returns-in_err-push-clause-err
returns-in_err-push-clause-err c =
    at_err c.from_residual.result (seen_same fed_of (runners_of c.args.self.now) _
    (out-Runners c.args.self.now).runners.items c.push.new.self.items (runners_are c.args.self.now)
    (runners_made c.push.new.self) c.in_err-push.ensures.items)

pub returns-clause-ok : goal.returns-clause-ok
returns-clause-ok c =
    seen_more fed_of (runners_of c.args.self.now) _ (out-Runners c.args.self.now).runners.items
    c.push.new.self.items (record { outer = c.args.outer; dump = c.args.dump }) (runners_are
    c.args.self.now)
    (runners_made c.push.new.self) c.in_ok-push.ensures.items
