use Rattle.std.proofs.Common.{◌∙◌}
use Rattle.io_edge.specs.Lines.{long}
use Rattle.beside_lines.proofs.Filled.{one_more_of, replies_beside}
use Rattle.beside_lines.proofs.beside.BesideReplier.reply_to_long.Goals as goal

pub returns-clause-replies : goal.returns-clause-replies
returns-clause-replies g c =
    let f = g.F.Follower in
    replies_beside f.follows f.position long c.args.self.now _ _ _ _
    c.deref_mut.ensures.value c.in_ok-push_long_columns.ensures.filled c.as_slice.result.now
    c.clear.ensures.items (c.as_slice.ensures.value ∙ c.in_ok-extend_from_slice.ensures.items)

pub returns-clause-position : goal.returns-clause-position
returns-clause-position g c =
    let f = g.F.Follower in
    one_more_of f.follows f.position long c.args.self.now _ _ _ _
    c.deref_mut.ensures.value c.in_ok-push_long_columns.ensures.filled
