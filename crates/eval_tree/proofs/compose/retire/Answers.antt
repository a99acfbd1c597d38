use Rattle.std.proofs.Common.{rules}
use Rattle.query_model.specs.Queries.{plain_of}
use Rattle.eval_nodes.specs.Live.{live_of}
use Rattle.eval_nodes.specs.Plain.{holding_of}
use Rattle.eval_tree.proofs.compose.retire.Goals as goal

pub returns-clause-live : goal.returns-clause-live
returns-clause-live c =
    c.keep.ensures.live (live_of (plain_of c.args.first.now.shape)
    (holding_of c.args.node.now.state))
    (λ start answer is. search rules)

pub returns-clause-idle : goal.returns-clause-idle
returns-clause-idle c =
    c.keep.ensures.idle (live_of (plain_of c.args.first.now.shape)
    (holding_of c.args.node.now.state))
    (λ start answer is. search rules)
