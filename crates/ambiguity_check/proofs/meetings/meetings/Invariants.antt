use Rattle.ambiguity_check.proofs.Filling.{IsFilled, HaveMasks}
use Rattle.ambiguity_check.proofs.meetings.meetings.Given as goal

abbrev pub invariant-cells : goal.invariant-cells
invariant-cells l = IsFilled l.first.cells l.first.sets l.second.sets l.cell l.rows.items
    × HaveMasks l.first.cells l.first.sets l.second.sets l.before.0 l.before.1 l.rows.items
