use Rattle.query_compiler.proofs.Compilations.{one_query}
use Rattle.query_compiler.proofs.laws.one_query_per_text.Goals as goal

pub returns : goal.returns
returns c = record { only = one_query }
