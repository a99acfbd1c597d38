-- Statement. Words of items.
use Rattle.std.specs.Prelude.{List, [], ◌∷◌, ◌++◌}
use Rattle.std.specs.List.{AllByRecursion}
use Rattle.value_ops.specs.declared.field.Field.{Field}
use Rattle.item_schema.specs.declared.column.Column.{Column}
use Rattle.item_schema.specs.Items.{IsItemOf}

-- items one after the other, each by its fields
abbrev pub Word : Type 0
Word = List (List Field)

-- all are items of these columns
abbrev pub IsWordOf : List Column → Word → Type 0
IsWordOf columns word = AllByRecursion (IsItemOf columns) word

-- words one after the other
abbrev pub join : List Word → Word
join [] = []
join (word ∷ words) = word ++ join words
