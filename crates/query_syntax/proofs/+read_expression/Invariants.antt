use Rattle.query_syntax.proofs.Records.{AreRead}
use Rattle.query_syntax.proofs.+read_expression.Given as goal

-- the terms so far are what the parts so far are written as
abbrev pub invariant-expression_calls::record_of-arguments :
    goal.invariant-expression_calls::record_of-arguments
invariant-expression_calls::record_of-arguments l =
    AreRead l.arguments l.parts.items l.argument-index
