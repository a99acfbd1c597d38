use Rattle.beside_lines.proofs.Outputs.{column_is}
use Rattle.beside_lines.proofs.laws.a_column_is_what_its_query_writes.Goals as goal

pub returns : goal.returns
returns c = column_is
