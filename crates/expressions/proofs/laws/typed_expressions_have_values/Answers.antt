-- By induction on the expression.
use Rattle.expressions.proofs.TypedValues.{typed_value, typed_range}
use Rattle.expressions.proofs.laws.typed_expressions_have_values.Goals as goal

pub returns-clause-value : goal.returns-clause-value
returns-clause-value c = typed_value

pub returns-clause-range : goal.returns-clause-range
returns-clause-range c = typed_range
