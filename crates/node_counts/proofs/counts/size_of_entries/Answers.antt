use Rattle.std.proofs.Common.{arith}
use Rattle.eval_nodes.proofs.Reading.{sizes_more}
use Rattle.node_counts.proofs.counts.size_of_entries.Goals as goal

pub entries-preserved : goal.entries-preserved
entries-preserved c =
    let more = sizes_more c.args.held.now.entries c.entries.i c.entry.result.now c.entry.ensures in
    (omega arith, c.len-i-end.ensures.count)
