use Rattle.std.proofs.Common.{List, None, subst, sym}
use Rattle.expressions.specs.Evaluation.{given}
use Rattle.value_ops.specs.declared.field.Field.{Field}
use Rattle.value_ops.specs.declared.value.ValueType.{ValueType}
use Rattle.expressions.specs.Expressions as values
use Rattle.expressions.specs.Typing.{HasType, types_of}
use Rattle.predicates.specs.Plain as predicates
use Rattle.slow_eval.proofs.WellTyped.{atom_typed}
use Rattle.slow_eval.proofs.leaf_answers.atom_answers.Goals as goal

pub eval-requires : goal.eval-requires
eval-requires c =
    let e = values.plain_of c.args.expression.now in
    subst
    (λ (item : List Field). (type : ValueType) × HasType (types_of (given item None None)) e type)
    (sym c.fields.ensures)
    (atom_typed (predicates.plain_of c.args.pred.now) e c.in-Some.item.now c.args.word.now
    c.requires c.in-Some.ensures.value)
