-- The columns so far are copied.
use Rattle.std.proofs.Common.{◌≡◌, take}
use Rattle.item_schema.proofs.schema.Schema.try_copy.Given as goal

abbrev pub invariant-columns : goal.invariant-columns
invariant-columns l = l.columns.items ≡ take l.column-index l.column-items
