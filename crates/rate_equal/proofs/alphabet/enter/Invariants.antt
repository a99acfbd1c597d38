use Rattle.rate_equal.specs.Holding.{AreRows}
use Rattle.rate_equal.proofs.alphabet.enter.Given as goal

abbrev pub invariant-letters : goal.invariant-letters
invariant-letters l = record {
  in_first : AreRows (λ letter. letter.first) l.first l.letters l.place;
  in_second : AreRows (λ letter. letter.second) l.second l.letters l.place;
}
