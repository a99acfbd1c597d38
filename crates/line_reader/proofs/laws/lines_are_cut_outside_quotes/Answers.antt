use Rattle.line_reader.proofs.CutLines.{record_of-texts}
use Rattle.line_reader.proofs.laws.lines_are_cut_outside_quotes.Goals as goal

pub returns : goal.returns
returns c = record_of-texts
