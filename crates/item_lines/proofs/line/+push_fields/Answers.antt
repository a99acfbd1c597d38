use Rattle.std.proofs.Common.{◌≡◌, ℕ, ◌<◌, List, [], ◌∷◌, ◌++◌, length, refl, sym, append-nil}
use Rattle.std.proofs.Common.{arith}
use Rattle.value_ops.specs.declared.field.Field.{Field}
use Rattle.item_schema.specs.declared.column.Column.{Column}
use Rattle.item_lines.specs.Lines.{line_of}
use Rattle.item_lines.proofs.line.+push_fields.Goals as goal

-- no fields have an empty line
none_left : (columns : List Column) (fields : List Field) → length fields < 1
    → line_of columns fields ≡ []
none_left [] fields none = refl
none_left (column ∷ []) [] none = refl
none_left (column ∷ second ∷ columns) [] none = refl
none_left columns (field ∷ fields) none = absurd (omega arith)

nothing_more : (line : List ℕ) (columns : List Column) (fields : List Field) → length fields < 1
    → line ≡ line ++ line_of columns fields
nothing_more line columns fields none = rw (none_left columns fields none) (sym (append-nil line))

pub returns-in_default-2 : goal.returns-in_default-2
returns-in_default-2 t c =
    nothing_more c.args.line.now.items c.args.columns.now c.args.fields.now (grind arith)

pub returns-in_default-3 : goal.returns-in_default-3
returns-in_default-3 t c =
    nothing_more c.args.line.now.items c.args.columns.now c.args.fields.now (grind arith)
