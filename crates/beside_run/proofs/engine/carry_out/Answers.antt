use Rattle.std.proofs.Common.{refl}
use Rattle.beside_run.specs.Call.{carries, differs}
use Rattle.beside_run.proofs.engine.carry_out.Goals as goal

pub returns-in-Some-clause-carried : goal.returns-in-Some-clause-carried
returns-in-Some-clause-carried g c =
    differs c.in-Some.number c.in-Some.ensures.other refl c.write_other.ensures.ends

pub returns-in-None-clause-carried : goal.returns-in-None-clause-carried
returns-in-None-clause-carried g c =
    carries c.run_command.result refl c.in-None.ensures.none c.run_command.ensures.carries
