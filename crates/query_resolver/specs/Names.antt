-- Statement. The names of columns.
use Rattle.std.specs.Prelude.{ℕ, ◌==◌, ◌&&◌, Bool, true, not, List, [], ◌∷◌, Option, None, Some}
use Rattle.std.specs.Prelude.{position, if◌then◌else◌}
use Rattle.std.specs.List.{list_any}
use Rattle.std.specs.Str.{bytes_eq}
use Rattle.item_schema.specs.declared.column.Column as schema
use Rattle.query_syntax.specs.declared.leaf.Name.{Name}

-- the column of this name, counted from 0
abbrev pub column_named : List schema.Column → List ℕ → Option ℕ
column_named columns name = position (λ c. bytes_eq name c.name) columns

-- a column before others, if there are all
abbrev pub with_first : Option ℕ → Option (List ℕ) → Option (List ℕ)
with_first (Some column) (Some others) = Some (column ∷ others)
with_first _ _ = None

-- the columns of these names, if there are all
abbrev pub columns_named : List schema.Column → List Name → Option (List ℕ)
columns_named columns [] = Some []
columns_named columns (name ∷ names) =
    with_first (column_named columns name.bytes) (columns_named columns names)

-- no column stands twice
abbrev pub stand_once : List ℕ → Bool
stand_once [] = true
stand_once (column ∷ others) = not (list_any (λ other. other == column) others) && stand_once others

-- columns, if none of them stands twice
abbrev pub once : Option (List ℕ) → Option (List ℕ)
once (Some chosen) = if stand_once chosen then Some chosen else None
once None = None

-- the columns of a key: it has one, each name is that of a column, and none is named twice
abbrev pub key_named : List schema.Column → List Name → Option (List ℕ)
key_named columns [] = None
key_named columns (first ∷ others) = once (columns_named columns (first ∷ others))
