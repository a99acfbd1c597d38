use Rattle.std.proofs.Common.{ap, map, ◌∙◌}
use Rattle.runner_snapshot.proofs.Rows.{keyed_of, keys_made}
use Rattle.runner_snapshot.proofs.keys.KeyDumps.new.Goals as goal

pub returns : goal.returns
returns c = keys_made c.args.alloc c.new.result ∙ ap (map keyed_of) c.new.ensures.items
