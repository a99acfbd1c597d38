-- Statement. Whether the items of a query's stream have few cells.
use Rattle.std.specs.Prelude.{Bool, List, nat_le}
use Rattle.language_base.specs.Limits.{max_cells}
use Rattle.item_schema.specs.declared.column.Column.{Column}
use Rattle.predicate_cells.specs.Cells.{count_from}
use Rattle.query_model.specs.Queries.{Qre}
use Rattle.query_model.specs.Sizes.{predicates_of}

-- the query's predicates distinguish few items of its stream
abbrev pub has_few_cells : List Column → Qre → Bool
has_few_cells columns query = nat_le (count_from 0 columns (predicates_of query)) max_cells
