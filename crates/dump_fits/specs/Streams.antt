-- Statement. The columns of the items that a query reads.
use Rattle.std.specs.Prelude.{List}
use Rattle.item_schema.specs.declared.column.Column.{Column}
use Rattle.query_model.specs.QueryTypes.{derived_columns}
use Rattle.dump_fits.specs.declared.stream.Stream.{Stream}
use Rattle.dump_fits.specs.declared.stream.Stream.TheVariants.{Read, Values}

-- those that are read, or those of the values of another query
abbrev pub columns_of : Stream → List Column
columns_of (Read columns) = columns.now
columns_of (Values type) = derived_columns type
