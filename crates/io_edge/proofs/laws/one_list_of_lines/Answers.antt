use Rattle.io_edge.proofs.OneList.{lines-are, lines-only}
use Rattle.io_edge.proofs.laws.one_list_of_lines.Goals as goal

pub returns : goal.returns
returns c = record { some = lines-are; only = lines-only }
