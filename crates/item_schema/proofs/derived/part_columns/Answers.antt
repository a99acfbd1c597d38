-- One column more.
use Rattle.std.proofs.Common.{◌++◌, List, [], ◌∷◌, ◌∙◌, ap, sym, add-one}
use Rattle.item_schema.specs.Layout.{part_columns}
use Rattle.item_schema.specs.declared.column.Column.{Column}
use Rattle.item_schema.proofs.derived.part_columns.Goals as goal

pub places-preserved : goal.places-preserved
places-preserved c =
    c.in_ok-push.ensures.items
    ∙ ap (λ (columns : List Column). columns ++ c.in_ok-part_column.field-0 ∷ []) c.places.invariant
    ∙ ap (λ (column : Column). part_columns c.places.place ++ column ∷ [])
    c.in_ok-part_column.ensures ∙ ap part_columns (sym (add-one c.places.place))
