use Rattle.query_syntax.proofs.WithinLimits.{stream_within}
use Rattle.query_syntax.proofs.laws.streams_are_within_the_limits.Goals as goal

pub returns : goal.returns
returns c = stream_within
