use Rattle.item_schema.proofs.Layouts.{is_layout}
use Rattle.item_schema.proofs.schema.Schema.new.Goals as goal

pub invariant_of-result : goal.invariant_of-result
invariant_of-result c = is_layout _ c.requires
