use Rattle.std.proofs.Common.{IsTrue}
use Rattle.rate_equal.proofs.Patterns.{parts_lacking}
use Rattle.rate_equal.proofs.pattern.Pattern.parted.Goals as goal

pub returns-else-has-clause-like : goal.returns-else-has-clause-like
returns-else-has-clause-like c =
    (parts_lacking c.args.self c.having-else-has.result c.lacking-else-has.result
    c.args.position c.args.letter c.having-else-has.ensures c.lacking-else-has.ensures
    (λ has. let met : IsTrue c.has.result = c.has.ensures.1 has in cc)).0

pub returns-else-has-clause-unlike : goal.returns-else-has-clause-unlike
returns-else-has-clause-unlike c =
    (parts_lacking c.args.self c.having-else-has.result c.lacking-else-has.result
    c.args.position c.args.letter c.having-else-has.ensures c.lacking-else-has.ensures
    (λ has. let met : IsTrue c.has.result = c.has.ensures.1 has in cc)).1
