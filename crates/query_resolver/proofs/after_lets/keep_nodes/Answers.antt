use Rattle.std.proofs.Common.{sym, ◌∙◌}
use Rattle.query_syntax.specs.Plain.{plain_program}
use Rattle.query_resolver.proofs.Measuring.{wrong_count}
use Rattle.query_resolver.proofs.after_lets.keep_nodes.Goals as goal

pub returns-in-Some-clause-refused : goal.returns-in-Some-clause-refused
returns-in-Some-clause-refused c =
    rw c.refused.ensures
    (wrong_count (plain_program c.args.program.now) c.in-Some.span
    (sym c.in_ok-span.ensures ∙ c.in-Some.is))
