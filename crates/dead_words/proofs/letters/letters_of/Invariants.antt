use Rattle.dead_words.specs.Letters.{AreGathered}
use Rattle.dead_words.proofs.letters.letters_of.Given as goal

-- the cells so far have letters
abbrev pub invariant-cells : goal.invariant-cells
invariant-cells l = AreGathered l.nfa l.cell l.known.keys l.letters.items
