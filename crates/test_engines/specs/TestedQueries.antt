-- Statement. The stream of the test, and the query on it.
use Rattle.std.specs.Prelude.{List, [], ◌∷◌, codes, pos}
use Rattle.language_base.specs.declared.binary.BinaryOp.TheVariants as op
use Rattle.expressions.specs.declared.expr.Var.TheVariants as var
use Rattle.expressions.specs.Expressions.{binary, literal, read, Expression}
use Rattle.item_schema.specs.declared.column.Column.{Column}
use Rattle.item_schema.specs.declared.column.Kind.TheVariants as kind
use Rattle.predicates.specs.Predicates.{any}
use Rattle.query_model.specs.Queries.{Qre, atom, combine, iter}

-- items of one number
abbrev pub numbers : List Column
numbers = record { name = codes "a"; kind = kind.Int } ∷ []

-- the sum of what the expression gives on each item
abbrev pub total : Expression → Qre
total value = iter (atom any value) (pos 0) (binary op.Add (read var.Left) (read var.Right))

-- the sum of the numbers less their count
abbrev pub excess : Qre
excess = combine (total (read (var.Field 0))) (total (literal (pos 1)))
    (binary op.Sub (read var.Left) (read var.Right))
