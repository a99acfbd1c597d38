-- The columns are those of the fields where those that are left are.
use Rattle.std.proofs.Common.{◌↔◌, length, drop}
use Rattle.item_schema.specs.Items.{IsItemOf}
use Rattle.item_schema.proofs.schema.have_fields.Given as goal

abbrev pub invariant-fields : goal.invariant-fields
invariant-fields l =
    IsItemOf (drop (length l.yielded) l.columns) (drop (length l.yielded) l.fields)
    ↔ IsItemOf l.columns l.fields
