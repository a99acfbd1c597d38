-- Statement. Whether items meet a predicate.
use Rattle.std.specs.Prelude.{◌≡◌, true, false, List}
use Rattle.value_ops.specs.declared.field.Field.{Field}
use Rattle.item_schema.specs.declared.column.Column.{Column}
use Rattle.item_schema.specs.Items.{IsItemOf}
use Rattle.predicates.specs.Predicates.{Predicate}
use Rattle.predicates.specs.Truth.{holds}

-- some item of the columns meets the predicate
abbrev pub IsMet : List Column → Predicate → Type 0
IsMet columns pred = (item : List Field) × IsItemOf columns item × (holds pred item ≡ true)

-- no item of the columns meets the predicate
abbrev pub IsUnmet : List Column → Predicate → Type 0
IsUnmet columns pred = (item : List Field) → IsItemOf columns item → holds pred item ≡ false
