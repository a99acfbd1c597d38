-- The columns so far.
use Rattle.std.proofs.Common.{◌≡◌}
use Rattle.item_schema.specs.Layout.{part_columns}
use Rattle.item_schema.proofs.derived.part_columns.Given as goal

abbrev pub invariant-places : goal.invariant-places
invariant-places l = l.columns.items ≡ part_columns l.place
