use Rattle.rate_equal.proofs.Patterns.{with_first, with_second}
use Rattle.rate_equal.proofs.pattern.with.Goals as goal

pub returns-in-First : goal.returns-in-First
returns-in-First c =
    rw (c.in-First.is, c.only.ensures) (with_first c.args.positions c.in-First.place)

pub returns-in-Second : goal.returns-in-Second
returns-in-Second c =
    rw (c.in-Second.is, c.only-in-Second.ensures) (with_second c.args.positions c.in-Second.place)
