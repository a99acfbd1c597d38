use Rattle.std.proofs.Common.{take}
use Rattle.dead_example.specs.Rates.{AreLinesIn}
use Rattle.dead_example.proofs.lines.lines_of.Given as goal

-- the lines of items of the cells so far
abbrev pub invariant-places : goal.invariant-places
invariant-places l = AreLinesIn l.cells (take l.place-index l.places) l.lines.items
