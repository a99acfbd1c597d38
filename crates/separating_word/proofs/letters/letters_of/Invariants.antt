use Rattle.separating_word.specs.Letters.{AreGathered}
use Rattle.separating_word.proofs.letters.letters_of.Given as goal

-- the cells so far have letters
abbrev pub invariant-cells : goal.invariant-cells
invariant-cells l = AreGathered l.automata l.cell l.known.keys l.letters.items
