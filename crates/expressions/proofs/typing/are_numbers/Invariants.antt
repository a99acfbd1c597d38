-- Those that are left decide.
use Rattle.expressions.specs.Shown.{shown_types}
use Rattle.expressions.proofs.RecordParts.{AreNumbersFrom}
use Rattle.expressions.proofs.typing.are_numbers.Given as goal

abbrev pub invariant-parts : goal.invariant-parts
invariant-parts l = AreNumbersFrom (shown_types l.types) l.parts l.part-index
