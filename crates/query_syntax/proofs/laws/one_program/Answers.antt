use Rattle.query_syntax.proofs.OneProgram.{one_program}
use Rattle.query_syntax.proofs.SomeProgram.{some_program}
use Rattle.query_syntax.proofs.laws.one_program.Goals as goal

pub returns-clause-some : goal.returns-clause-some
returns-clause-some c = some_program

pub returns-clause-only : goal.returns-clause-only
returns-clause-only c = one_program
