use Rattle.ambiguity_example.proofs.two_factorings.example_of.Goals as goal

pub returns-clause-first : goal.returns-clause-first
returns-clause-first c =
    rw c.new.ensures (rw c.positions-positions.ensures at c.in_ok-first.ensures)

pub returns-clause-second : goal.returns-clause-second
returns-clause-second c =
    rw c.new.ensures (rw c.positions-positions.ensures at c.in_ok-second.ensures)
