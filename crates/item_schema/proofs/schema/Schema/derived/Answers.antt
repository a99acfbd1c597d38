use Rattle.item_schema.proofs.DerivedLayouts.{values_are_layout}
use Rattle.item_schema.proofs.schema.Schema.derived.Goals as goal

pub invariant_of-result : goal.invariant_of-result
invariant_of-result c =
    rw c.in_ok-columns_of_values.ensures (values_are_layout c.args.ty c.requires)
