-- What stands in its place was its operand.
use Rattle.std.proofs.Common.{◌≡◌, ap}
use Rattle.query_model.specs.Queries.{plain_of}
use Rattle.query_model.specs.declared.query.Shape.{Apply}
use Rattle.expressions.specs.Expressions as values
use Rattle.query_rewrite.proofs.applying.leave_operand.Goals as goal

pub returns-in-Apply : goal.returns-in-Apply
returns-in-Apply c =
    let was : c.args.query.now.value.shape ≡ Apply c.in-Apply.inner c.in-Apply.field-1 = cc in
    (values.plain_of c.in-Apply.field-1, ap plain_of was)
