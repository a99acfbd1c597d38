use Rattle.std.proofs.Common.{IsTrue, List, sym, subst}
use Rattle.item_schema.specs.declared.column.Column.{Column}
use Rattle.item_schema.specs.Layout.{has_digits, is_read}
use Rattle.item_drill.specs.Lines.{are_read}
use Rattle.item_drill.proofs.Rows.{all_both}
use Rattle.item_drill.proofs.drill.Drill.line.Goals as goal

pub push_fields-requires : goal.push_fields-requires
push_fields-requires c =
    let columns = c.self.inside.schema.now.columns in
    subst (λ (columns : List Column). IsTrue (are_read columns))
    (sym c.columns-columns.ensures.columns)
    (all_both (λ (column : Column). has_digits column.kind)
    (λ (column : Column). is_read column.kind) columns c.columns-columns.ensures.layout.digits
    c.self.invariant)
