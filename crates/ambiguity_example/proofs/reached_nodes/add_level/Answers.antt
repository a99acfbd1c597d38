use Rattle.ambiguity_check.specs.Marked.{IsMarked}
use Rattle.ambiguity_example.proofs.Added.{adds_phases}
use Rattle.ambiguity_example.proofs.reached_nodes.add_level.Goals as goal

pub returns-in-Some-clause-adds : goal.returns-in-Some-clause-adds
returns-in-Some-clause-adds c = adds_phases (IsMarked c.args.level.now) c.args.items _ _ _ _
    c.in_ok-add_phase.ensures c.in_ok-add_phase-2.ensures c.in_ok-add_phase-3.ensures
