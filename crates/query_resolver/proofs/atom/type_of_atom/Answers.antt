use Rattle.std.proofs.Common.{◌≡◌, true, rules, subst}
use Rattle.predicates.specs.Fits.{fits}
use Rattle.predicates.specs.Plain as predicates
use Rattle.query_resolver.specs.Resolutions.{columns_of}
use Rattle.expressions.specs.Expressions as values
use Rattle.expressions.specs.Typing.{HasType, Types}
use Rattle.query_resolver.proofs.Atoms.{are_columns, ill_typed, types_in, unfit}
use Rattle.query_resolver.proofs.atom.type_of_atom.Goals as goal

pub returns-then-not-fits-clause-refused : goal.returns-then-not-fits-clause-refused
returns-then-not-fits-clause-refused c =
    rw c.refused.ensures
    (λ nesting test tree is. unfit nesting (columns_of c.args.items.now) test tree c.args.span
    (predicates.plain_of c.args.pred.now) is.tested (values.plain_of c.args.value.now)
    is.named (search rules))

pub returns-in-Some-clause-typed : goal.returns-in-Some-clause-typed
returns-in-Some-clause-typed c =
    subst (λ (types : Types). HasType types (values.plain_of c.args.value.now) c.in-Some.ty)
    (are_columns c.args.items.now c.requires) c.in-Some.ensures.some

pub returns-in-None-clause-refused : goal.returns-in-None-clause-refused
returns-in-None-clause-refused c =
    let pred = predicates.plain_of c.args.pred.now in
    let fit : fits (columns_of c.args.items.now) pred ≡ true = first_of (cc, search rules) in
    rw c.refused-in-None.ensures
    (λ nesting test tree is. ill_typed nesting (columns_of c.args.items.now) test tree c.args.span
    pred is.tested (values.plain_of c.args.value.now) is.named fit is.numbers
    (types_in c.args.items.now) (are_columns c.args.items.now c.requires) c.in-None.ensures.none)
