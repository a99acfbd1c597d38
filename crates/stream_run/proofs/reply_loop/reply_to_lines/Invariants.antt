use Rattle.std.proofs.Common.{◌≡◌, ◌≤◌, ◌+◌, ◌-◌, ◌^◌}
use Rattle.io_edge.specs.Limits.{max_count}
use Rattle.stream_run.specs.Outside.{outside}
use Rattle.stream_run.specs.Running.{Running}
use Rattle.stream_run.proofs.reply_loop.reply_to_lines.Given as goal

-- no object has failed, the run so far is one from the call's beginning, and the replier can
-- continue
abbrev pub invariant-lines : goal.invariant-lines
invariant-lines g l =
    let at = outside g.S.Source.left g.S.Source.ends g.W.Sink.taken in
    let r = g.R.Replier in
    record {
      running : Running r.stands r.says l.fn.replier (at l.fn.items l.fn.out)
          (at l.items l.out) l.lines l.replier;
      ready : r.ready l.replier;
      same : r.same l.fn.replier l.replier;
      count : r.position l.replier ≤ 2 ^ 62 + l.lines.answered;
      items_calm : g.S.Source.faults l.items ≡ g.S.Source.faults l.fn.items;
      sink_calm : g.W.Sink.faults l.out ≡ g.W.Sink.faults l.fn.out;
    }

-- each turn answers bytes, of which no more are taken than the limit
abbrev pub decreases-lines : goal.decreases-lines
decreases-lines g l = max_count - l.lines.answered
