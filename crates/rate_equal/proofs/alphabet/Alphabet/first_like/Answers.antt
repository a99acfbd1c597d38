use Rattle.std.proofs.Common.{arith}
use Rattle.rate_equal.proofs.Sifting.{none_all}
use Rattle.rate_equal.proofs.alphabet.Alphabet.first_like.Goals as goal

pub returns-clause-none : goal.returns-clause-none
returns-clause-none c =
    λ is. none_all c.args.self.now.letters.items c.args.pattern c.parts.block c.args.self.now.few
    (omega arith) c.parts.invariant
