use Rattle.std.proofs.Common.{◌==◌, arith}
use Rattle.std.proofs.lemmas.Bool.Decides.{nat_tests}
use Rattle.std.proofs.lemmas.Grind.{common_steps}
use Rattle.line_reader.proofs.Cuts.{is_found}
use Rattle.line_reader.proofs.cut.cut_at.Goals as goal

pub returns-in-Some-clause-after : goal.returns-in-Some-clause-after
returns-in-Some-clause-after c =
    let found = is_found (λ at. at == c.args.byte) c.args.text.now in
    grind (arith, nat_tests, common_steps)
