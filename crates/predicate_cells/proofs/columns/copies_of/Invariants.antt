use Rattle.std.proofs.Common.{◌≡◌, take}
use Rattle.predicate_cells.proofs.columns.copies_of.Given as goal

-- the classes of the columns so far are copied
abbrev pub invariant-loop-classes : goal.invariant-loop-classes
invariant-loop-classes l = l.copies.items ≡ take l.classes-index l.columns
