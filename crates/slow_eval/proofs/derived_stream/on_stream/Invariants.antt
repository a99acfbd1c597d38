use Rattle.slow_eval.proofs.Streaming.{IsOnStreamSoFar}
use Rattle.slow_eval.proofs.derived_stream.on_stream.Given as goal

abbrev pub invariant-answers : goal.invariant-answers
invariant-answers l = IsOnStreamSoFar l.firsts l.seconds l.row.items l.first-index l.items
