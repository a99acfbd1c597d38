use Rattle.std.proofs.Common.{arith}
use Rattle.std.proofs.lemmas.Grind.{common_steps}
use Rattle.std.proofs.lemmas.Option.{gets}
use Rattle.predicate_cells.proofs.Flags.{read_flag}
use Rattle.predicate_cells.proofs.cell_set.CellSet.has.Goals as goal

pub returns : goal.returns
returns c = rw (← c.self.view_is) (read_flag c.self.inside.flags.items c.args.cell
    c.is_some_and.result (grind (arith, common_steps, gets)))
