use Rattle.std.proofs.Common.{◌≡◌, None, refl}
use Rattle.query_syntax.specs.Plain.{plain_rate}
use Rattle.query_resolver.specs.Rates.{rate_over}
use Rattle.query_resolver.proofs.rate.named_rate.Goals as goal

pub returns-in-Some-clause-made : goal.returns-in-Some-clause-made
returns-in-Some-clause-made c = rw c.in-Some.is at c.in_ok-found.ensures

pub returns-in-None-clause-refused : goal.returns-in-None-clause-refused
returns-in-None-clause-refused c =
    let none : None ≡ rate_over c.args.schema.now.columns (plain_rate c.args.rate.now) =
    rw c.in-None.is at c.in_ok-found.ensures in
    rw (c.refused.ensures, ← none) refl
