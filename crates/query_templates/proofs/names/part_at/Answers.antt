use Rattle.std.proofs.Common.{arith}
use Rattle.std.proofs.lemmas.Bool.Decides.{nat_tests}
use Rattle.query_templates.specs.Names.{part_at}
use Rattle.query_templates.proofs.names.part_at.Goals as goal

pub returns-then-to-text : goal.returns-then-to-text
unfolding part_at
returns-then-to-text c = grind (arith, nat_tests)

pub returns-else-from-to : goal.returns-else-from-to
unfolding part_at
returns-else-from-to c = grind (arith, nat_tests)
