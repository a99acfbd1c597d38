use Rattle.std.proofs.Common.{◌≡◌, ◌*◌, ◌≤◌, drop}
use Rattle.language_base.specs.Limits.{max_cells}
use Rattle.predicate_cells.specs.Ranks.{cells_in}
use Rattle.predicate_cells.proofs.columns.count_of.Given as goal

-- the product so far times that of the other columns is the product of all
abbrev pub invariant-loop-classes : goal.invariant-loop-classes
invariant-loop-classes l =
    (l.count ≤ max_cells)
    × (l.count * cells_in (drop l.classes-index l.columns) ≡ cells_in l.columns)
