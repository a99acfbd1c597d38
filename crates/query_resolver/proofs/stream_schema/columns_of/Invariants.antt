use Rattle.std.proofs.Common.{◌≡◌, map, take}
use Rattle.query_resolver.specs.Layouts.{column_of}
use Rattle.query_resolver.proofs.stream_schema.columns_of.Given as goal

-- the columns so far are made
abbrev pub invariant-columns : goal.invariant-columns
invariant-columns l = l.made.items ≡ map column_of (take l.column-index l.columns)
