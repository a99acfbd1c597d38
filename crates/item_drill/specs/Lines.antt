-- Statement. The lines of a drill, and the items to which they are read.
use Rattle.std.specs.Prelude.{ℕ, zero, suc, Bool, ◌&&◌, if◌then◌else◌, List, [], ◌∷◌, ◌++◌, length}
use Rattle.std.specs.Prelude.{codes, map}
use Rattle.std.specs.List.{flat_map, join_with_byte, list_all}
use Rattle.value_ops.specs.declared.field.Field.{Field}
use Rattle.item_schema.specs.declared.column.Column.{Column}
use Rattle.item_schema.specs.Layout.{Layout, has_digits, is_read}
use Rattle.item_drill.specs.Draws.{drawn, state_after, next_state}
use Rattle.item_drill.specs.Fields.{field_of, field_text}

-- the columns are of kinds that lines are read to
abbrev pub are_read : List Column → Bool
are_read columns = list_all (λ column. has_digits column.kind && is_read column.kind) columns

-- how far a drill has come: the columns of its lines, and the state before the next line
pub record Drilling : Type 0 where
  pub layout : Layout
  pub state : ℕ

-- the texts of a line from this state on: a draw for each column, from left to right
abbrev pub texts_from : List Column → ℕ → List (List ℕ)
texts_from [] state = []
texts_from (column ∷ columns) state =
    field_text column.kind (drawn (next_state state)) ∷ texts_from columns (next_state state)

-- the item of these texts
abbrev pub item_from : List Column → ℕ → List Field
item_from [] state = []
item_from (column ∷ columns) state =
    field_of column.kind (drawn (next_state state)) ∷ item_from columns (next_state state)

-- texts with commas between them
abbrev pub row_of : List (List ℕ) → List ℕ
row_of texts = join_with_byte 44 texts

-- the line from this state on, without its LF
abbrev pub line_from : List Column → ℕ → List ℕ
line_from columns state = row_of (texts_from columns state)

-- a number of lines from this state on
abbrev pub lines_from : List Column → ℕ → ℕ → List (List ℕ)
lines_from columns zero state = []
lines_from columns (suc count) state =
    line_from columns state ∷ lines_from columns count (state_after (length columns) state)

-- the names of the columns
abbrev pub names_of : List Column → List (List ℕ)
names_of columns = map (λ (column : Column). column.name) columns

-- the line that comes before all others, if there is one
abbrev pub header_of : Layout → List (List ℕ)
header_of layout = if layout.has_header then row_of (names_of layout.columns) ∷ [] else []

-- the bytes of lines: each ends with an LF
abbrev pub bytes_of : List (List ℕ) → List ℕ
bytes_of lines = flat_map (λ line. line ++ codes "\n") lines

-- the bytes of a drill of `count` lines from a seed
abbrev pub drill_bytes : Layout → ℕ → ℕ → List ℕ
drill_bytes layout count seed = bytes_of (header_of layout ++ lines_from layout.columns count seed)
