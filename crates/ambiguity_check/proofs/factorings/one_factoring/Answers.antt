use Rattle.ambiguity_check.proofs.FactorWalks.{one_factoring_says, empty_factors}
use Rattle.ambiguity_check.proofs.factorings.one_factoring.Goals as goal

pub returns-then-nullable : goal.returns-then-nullable
returns-then-nullable c = λ r of_r. empty_factors c.args.nfa.now.cells.layout.columns
    c.args.nfa.now.sets r of_r (cc)

pub returns : goal.returns
returns c = λ r of_r.
    let reached = rw c.in_ok-factorings.ensures.sets at c.in_ok-marks.ensures in
    let found = rw (c.last.ensures, c.last-2.ensures, c.positions-positions.ensures) at
    c.has_some.ensures in
    one_factoring_says c.args.nfa.now.cells.layout.columns c.args.nfa.now.sets _
    c.in_ok-factorings.ensures.rows r of_r _ _
    (λ nullable. cc) reached found
