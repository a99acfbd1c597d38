use Rattle.std.proofs.Common.{sym}
use Rattle.query_syntax.specs.Plain.{plain_expression}
use Rattle.query_resolver.specs.Scopes.{plain_scope}
use Rattle.expressions.specs.Expressions.{plain_of}
use Rattle.expressions.specs.Shown.{shown_types}
use Rattle.query_resolver.proofs.Valued.{unfit, unnamed}
use Rattle.query_resolver.proofs.WellTyped.{is_typed_true, type_is, well_typed}
use Rattle.query_resolver.proofs.typed_expressions.value_over.Goals as goal

pub returns-in_default-clause-refused : goal.returns-in_default-clause-refused
returns-in_default-clause-refused c =
    rw c.refused.ensures
    (unnamed (plain_scope c.args.scope) (shown_types c.args.types.now)
    (plain_expression c.args.expression.now) c.args.span
    (rw c.in_default.is at c.in_ok-value.ensures.made))

pub returns-in-Some-type_in-clause-made : goal.returns-in-Some-type_in-clause-made
returns-in-Some-type_in-clause-made c =
    let has = c.in-Some-type_in.ensures.some in record {
      named = sym (rw c.in-Some.is at c.in_ok-value.ensures.made);
      passes = is_typed_true (shown_types c.args.types.now) (plain_of c.in-Some.value)
          c.in-Some-type_in.ty has;
      typed = well_typed (shown_types c.args.types.now) (plain_of c.in-Some.value)
          c.in-Some-type_in.ty has;
      type = type_is (shown_types c.args.types.now) (plain_of c.in-Some.value)
          c.in-Some-type_in.ty has;
    }

pub returns-in-None-clause-refused : goal.returns-in-None-clause-refused
returns-in-None-clause-refused c =
    rw c.refused-in-None.ensures
    (unfit (plain_scope c.args.scope) (shown_types c.args.types.now)
    (plain_expression c.args.expression.now) c.args.span
    (plain_of c.in-Some.value) (rw c.in-Some.is at c.in_ok-value.ensures.made)
    (rw c.in-Some.is at c.in_ok-value.ensures.numbers) c.in-None.ensures.none)
