use Rattle.rate_equal.proofs.Sifting.{NoneBelow}
use Rattle.rate_equal.proofs.alphabet.Alphabet.first_like.Given as goal

abbrev pub invariant-parts : goal.invariant-parts
invariant-parts l = NoneBelow l.self.letters.items l.pattern l.block
