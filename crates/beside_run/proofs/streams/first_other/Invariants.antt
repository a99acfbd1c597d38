use Rattle.std.proofs.Common.{take}
use Rattle.beside_run.proofs.StreamsApart.{AreOf}
use Rattle.beside_run.proofs.streams.first_other.Given as goal

-- the queries below the index have the stream of the first one
abbrev pub invariant-others : goal.invariant-others
invariant-others l = AreOf l.first.value.layout (take l.at l.others)
