-- As many numbers as there are expressions.
use Rattle.expressions.specs.Shown.{shown_types}
use Rattle.expressions.proofs.RecordParts.{record_typed}
use Rattle.expressions.proofs.typing.type_of_record.Goals as goal

pub returns-then-are_numbers-clause-some : goal.returns-then-are_numbers-clause-some
returns-then-are_numbers-clause-some c =
    record_typed (shown_types c.args.types.now) c.args.parts.now c.requires
    (c.are_numbers.ensures.0 c.if-are_numbers.true)
