-- Statement. What a stream of a file keeps to.
use Rattle.std.specs.Prelude.{◌≤◌, length}
use Rattle.std.specs.List.{AllByRecursion}
use Rattle.language_base.specs.Limits.{max_columns}
use Rattle.query_syntax.specs.declared.stream.Column.{Column}
use Rattle.query_syntax.specs.declared.stream.Kind.{Kind}
use Rattle.query_syntax.specs.declared.stream.Kind.TheVariants.{Int, Text, Fixed}
use Rattle.query_syntax.specs.Programs.{Stream}

-- the digits after the point are from 1 to 9
abbrev pub HasDigits : Kind → Type 0
HasDigits (Int span) = Unit {0}
HasDigits (Text span) = Unit {0}
HasDigits (Fixed digits span) = (1 ≤ digits.count) × (digits.count ≤ 9)

-- the stream has columns, no more than a stream may have, and each has such digits
pub record IsWithin (stream : Stream) : Type 0 where
  pub some : 1 ≤ length stream.columns
  pub few : length stream.columns ≤ max_columns
  pub digits : AllByRecursion (λ (column : Column). HasDigits column.kind) stream.columns
