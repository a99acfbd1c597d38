use Rattle.ambiguity_check.proofs.SplitReads.{meetings_in}
use Rattle.ambiguity_check.proofs.splits.Splits.new.Goals as goal

pub returns-clause-rows : goal.returns-clause-rows
returns-clause-rows c = meetings_in c.args.first.now.cells.layout.columns c.args.first.now.sets
    c.args.second.now.sets _ _ _ c.in_ok-meetings.ensures
    (rw (← c.requires) at c.in_ok-meetings-2.ensures)
    (rw (← c.requires) at c.in_ok-meetings-3.ensures)
