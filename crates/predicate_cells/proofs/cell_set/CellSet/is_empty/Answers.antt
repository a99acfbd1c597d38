use Rattle.std.proofs.Common.{refl}
use Rattle.predicate_cells.proofs.Flags.{no_flag}
use Rattle.predicate_cells.proofs.cell_set.CellSet.is_empty.Goals as goal

pub returns : goal.returns
returns c = rw (← c.self.view_is, c.contains.ensures.value, c.deref.ensures.value)
    (no_flag _ refl refl 0 c.self.inside.flags.items)
