use Rattle.std.proofs.Common.{◌≡◌, None, refl}
use Rattle.query_syntax.specs.Plain.{plain_expression}
use Rattle.query_resolver.specs.Expressions.{expression_over, of_item}
use Rattle.query_resolver.proofs.atom.named_value.Goals as goal

pub returns-in-Some-clause-made : goal.returns-in-Some-clause-made
returns-in-Some-clause-made c = rw c.in-Some.is at c.in_ok-found.ensures.made

pub returns-in-Some-clause-numbers : goal.returns-in-Some-clause-numbers
returns-in-Some-clause-numbers c = rw c.in-Some.is at c.in_ok-found.ensures.numbers

pub returns-in-None-clause-refused : goal.returns-in-None-clause-refused
returns-in-None-clause-refused c =
    let none : None
    ≡ expression_over (of_item c.args.schema.now.columns) (plain_expression c.args.value.now) =
    rw c.in-None.is at c.in_ok-found.ensures.made in
    rw (c.refused.ensures, ← none) refl
