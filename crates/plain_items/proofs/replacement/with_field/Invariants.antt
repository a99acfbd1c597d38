use Rattle.std.proofs.Common.{◌≡◌, take}
use Rattle.std.specs.Prelude.{slice_set}
use Rattle.plain_items.proofs.replacement.with_field.Given as goal

-- the fields so far
abbrev pub invariant-fields : goal.invariant-fields
invariant-fields l = l.fields.items ≡ take l.at (slice_set l.item l.column l.field)
