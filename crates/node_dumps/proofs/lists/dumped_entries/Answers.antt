use Rattle.node_dumps.proofs.DumpLists.{entry_put}
use Rattle.node_dumps.proofs.lists.dumped_entries.Goals as goal

pub entries-preserved : goal.entries-preserved
entries-preserved c = (
  entry_put c.args.held.now.entries c.entries.i c.entry-entry.result.now c.entries.entries _ _
      c.entry-entry.ensures c.entries.invariant.0 c.in_ok-try_copy.ensures.equal c.in_ok-push.ensures.ok,
  c.len-i-end.ensures.count,
)
