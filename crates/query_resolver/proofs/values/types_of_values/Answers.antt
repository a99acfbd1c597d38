use Rattle.query_resolver.proofs.FieldTypes.{record_fields}
use Rattle.query_resolver.proofs.values.types_of_values.Goals as goal

pub returns-in-Rec : goal.returns-in-Rec
returns-in-Rec c = rw c.in-Rec.is (record_fields c.in-Rec.size (rw c.in-Rec.is at c.requires).1)
