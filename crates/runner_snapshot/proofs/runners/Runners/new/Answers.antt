use Rattle.std.proofs.Common.{ap, map, ◌∙◌}
use Rattle.runner_snapshot.proofs.Rows.{fed_of, runners_made}
use Rattle.runner_snapshot.proofs.runners.Runners.new.Goals as goal

pub returns : goal.returns
returns c = runners_made c.new.result ∙ ap (map fed_of) c.new.ensures.items
