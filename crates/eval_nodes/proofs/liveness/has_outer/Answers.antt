use Rattle.std.proofs.Common.{sym}
use Rattle.eval_nodes.proofs.Reading.{outer_more, outer_there}
use Rattle.eval_nodes.proofs.liveness.has_outer.Goals as goal

pub returns-then-entry-start : goal.returns-then-entry-start
returns-then-entry-start c =
    sym (outer_there c.args.held.now.entries c.entries.i c.entry.result.now
    c.args.start c.entry.ensures c.if-entry-start.true)

pub entries-preserved : goal.entries-preserved
entries-preserved c = (
  outer_more c.args.held.now.entries c.entries.i c.entry.result.now c.args.start c.entry.ensures
      c.if-entry-start.false c.entries.invariant.0,
  c.len-i-end.ensures.count,
)
