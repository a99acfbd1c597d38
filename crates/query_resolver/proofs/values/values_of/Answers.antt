use Rattle.std.proofs.Common.{◌∙◌}
use Rattle.query_model.specs.Queries.{plain_of}
use Rattle.query_resolver.proofs.ValueTypes.{known_value}
use Rattle.query_resolver.proofs.values.values_of.Goals as goal

pub type_of-requires : goal.type_of-requires
type_of-requires c =
    let types = rw c.columns.ensures.columns at c.in_ok-types.ensures in
    (c.args.schema.now.columns, c.deref.ensures.value ∙ types, c.requires)

pub derived-requires : goal.derived-requires
derived-requires c =
    let types = rw c.columns.ensures.columns at c.in_ok-types.ensures in
    known_value c.args.schema.now.columns (plain_of c.args.query.now.shape)
    c.type_of.result c.requires
    (c.type_of.ensures c.args.schema.now.columns (c.deref.ensures.value ∙ types))
