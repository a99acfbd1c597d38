use Rattle.rate_equal.proofs.Counterparts.{met_without}
use Rattle.rate_equal.proofs.sieve.letter_of.Goals as goal

pub returns-then-takes-clause-some : goal.returns-then-takes-clause-some
returns-then-takes-clause-some c = (
  met_without _ c.with.result _ _ (c.with.ensures _ c.requires.free) c.requires.known
      c.lacking-lacking.ensures,
  c.takes.ensures c.if-takes.true,
)
