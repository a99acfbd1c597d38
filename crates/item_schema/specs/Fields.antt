-- For the prover. The fields of an item, however they are kept.
use Rattle.std.specs.Prelude.{List, [], ◌∷◌}
use Rattle.value_ops.specs.declared.field.Field.{Field}
use Rattle.item_schema.specs.declared.item.Fields.{Fields}
use Rattle.item_schema.specs.declared.item.Fields.TheVariants.{One, Many, Lent}

-- the fields in order
abbrev pub list_of : Fields → List Field
list_of (One field) = field ∷ []
list_of (Many fields) = fields.items
list_of (Lent fields) = fields.now
