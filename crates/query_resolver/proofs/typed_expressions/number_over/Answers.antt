use Rattle.std.proofs.Common.{◌≡◌, false, true, rules, sym}
use Rattle.query_syntax.specs.Plain.{plain_expression}
use Rattle.query_resolver.specs.Expressions.{is_number}
use Rattle.query_resolver.specs.Scopes.{plain_scope}
use Rattle.expressions.specs.Expressions.{plain_of}
use Rattle.expressions.specs.Shown.{shown_types}
use Rattle.query_resolver.proofs.Valued.{fails_number, unnamed_number}
use Rattle.query_resolver.proofs.WellTyped.{number_is}
use Rattle.query_resolver.proofs.typed_expressions.number_over.Goals as goal

pub returns-in_default-clause-refused : goal.returns-in_default-clause-refused
returns-in_default-clause-refused c =
    rw c.refused.ensures
    (unnamed_number (plain_scope c.args.scope) (shown_types c.args.types.now)
    (plain_expression c.args.expression.now) c.args.span
    (rw c.in_default.is at c.in_ok-value.ensures.made))

pub is_number-requires : goal.is_number-requires
is_number-requires c = rw c.in-Some.is at c.in_ok-value.ensures.numbers

pub returns-then-not-is_number-clause-refused : goal.returns-then-not-is_number-clause-refused
returns-then-not-is_number-clause-refused c =
    let differs : is_number (shown_types c.args.types.now) (plain_of c.in-Some.value) ≡ false =
    first_of (cc, search rules) in
    rw c.refused-then-not-is_number.ensures
    (fails_number (plain_scope c.args.scope) (shown_types c.args.types.now)
    (plain_expression c.args.expression.now) c.args.span (plain_of c.in-Some.value)
    (rw c.in-Some.is at c.in_ok-value.ensures.made) differs)

pub returns-clause-made : goal.returns-clause-made
returns-clause-made c =
    let is : is_number (shown_types c.args.types.now) (plain_of c.in-Some.value) ≡ true =
    first_of (cc, search rules) in record {
      named = sym (rw c.in-Some.is at c.in_ok-value.ensures.made);
      passes = is;
      number = number_is (shown_types c.args.types.now) (plain_of c.in-Some.value)
          (rw c.in-Some.is at c.in_ok-value.ensures.numbers) is;
    }
