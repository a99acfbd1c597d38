-- The fields so far are copied.
use Rattle.std.proofs.Common.{◌≡◌, take}
use Rattle.item_schema.proofs.item.copied.Given as goal

abbrev pub invariant-fields : goal.invariant-fields
invariant-fields l = l.copy.items ≡ take l.field-index l.fields
