-- Statement. Two queries that mean the same.
use Rattle.std.specs.Prelude.{◌↔◌, List}
use Rattle.value_ops.specs.declared.value.Value.{Value}
use Rattle.item_schema.specs.declared.column.Column.{Column}
use Rattle.rate_expr.specs.Words.{Word, IsWordOf}
use Rattle.query_model.specs.Denotation.{Den}
use Rattle.query_model.specs.Queries.{Qre}

-- on every word of items of these columns they have the same value, or both have none
abbrev pub MeanTheSame : List Column → Qre → Qre → Type 0
MeanTheSame columns one other = (word : Word) (value : Value) → IsWordOf columns word
    → Den one word value ↔ Den other word value
