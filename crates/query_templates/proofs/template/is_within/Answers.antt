use Rattle.std.proofs.Common.{arith}
use Rattle.std.proofs.lemmas.Bool.Decides.{nat_tests}
use Rattle.query_templates.specs.Expansion.{is_within}
use Rattle.query_templates.proofs.template.is_within.Goals as goal

pub returns-then-outer-inner : goal.returns-then-outer-inner
unfolding is_within
returns-then-outer-inner c = grind (arith, nat_tests)

pub returns-else-outer-inner : goal.returns-else-outer-inner
unfolding is_within
returns-else-outer-inner c = grind (arith, nat_tests)
