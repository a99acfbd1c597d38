-- The fields so far are those of the first parts.
use Rattle.std.proofs.Common.{◌≡◌, take}
use Rattle.item_schema.specs.Items.{fields_of_parts}
use Rattle.item_schema.proofs.room.Room.fields_of.Given as goal

abbrev pub invariant-places : goal.invariant-places
invariant-places l = l.self.fields.items ≡ fields_of_parts (take l.place l.parts)
