use Rattle.std.proofs.Common.{◌≡◌, None, refl}
use Rattle.query_syntax.specs.Plain.{plain_predicate}
use Rattle.query_resolver.specs.Tests.{resolved_over}
use Rattle.query_resolver.proofs.predicate.named_pred.Goals as goal

pub returns-in-Some-clause-made : goal.returns-in-Some-clause-made
returns-in-Some-clause-made c = rw c.in-Some.is at c.in_ok-found.ensures

pub returns-in-None-clause-refused : goal.returns-in-None-clause-refused
returns-in-None-clause-refused c =
    let none : None
    ≡ resolved_over c.args.schema.now.columns (plain_predicate c.args.predicate.now) =
    rw c.in-None.is at c.in_ok-found.ensures in
    rw (c.refused.ensures, ← none) refl
