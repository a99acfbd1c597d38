-- Statement. The written rates of collections, whose names are resolved.
use Rattle.std.specs.Prelude.{List, Option, None, Some, option_map}
use Rattle.item_schema.specs.declared.column.Column.{Column}
use Rattle.query_syntax.specs.Rates as written
use Rattle.query_syntax.specs.declared.operator.Join.{Join}
use Rattle.query_syntax.specs.declared.operator.Join.TheVariants.{Seq, Alt}
use Rattle.rate_expr.specs.Rates.{Regex, empty, one, sequence, choice, star}
use Rattle.query_resolver.specs.Tests.{resolved_over}

-- two rates joined, if there are both
abbrev pub joined_rates : Join → Option Regex → Option Regex → Option Regex
joined_rates Seq (Some left) (Some right) = Some (sequence left right)
joined_rates Alt (Some left) (Some right) = Some (choice left right)
joined_rates join _ _ = None

-- the rate over these columns, if each name in it is a column's
abbrev pub rate_over : List Column → written.Rate → Option Regex
rate_over columns (written.eps span) = Some empty
rate_over columns (written.item predicate span) = option_map one (resolved_over columns predicate)
rate_over columns (written.joined join left right span) =
    joined_rates join (rate_over columns left) (rate_over columns right)
rate_over columns (written.star inner span) = option_map star (rate_over columns inner)
