use Rattle.std.proofs.Common.{true, false, []}
use Rattle.stream_run.proofs.GoingOn.{items-cut, output-cut}
use Rattle.stream_run.proofs.laws.output_goes_on_between_lines.Goals as goal

pub returns-clause-cut : goal.returns-clause-cut
returns-clause-cut c meaning first others cut =
    output-cut first others cut meaning [] false true

pub returns-clause-again : goal.returns-clause-again
returns-clause-again c meaning word began first others cut =
    output-cut first others cut meaning word began true

pub returns-clause-whole : goal.returns-clause-whole
returns-clause-whole c meaning word began first others cut =
    output-cut first others cut meaning word began false

pub returns-clause-items : goal.returns-clause-items
returns-clause-items c layout began first others cut = items-cut first others cut layout began
