-- Statement. How many digits after the point the answers of a query have.
use Rattle.std.specs.Prelude.{◌≤◌, Bool, true, false, nat_eq, if◌then◌else◌, List, map}
use Rattle.std.specs.List.{list_all}
use Rattle.item_schema.specs.declared.column.Column.{Column}
use Rattle.item_schema.specs.declared.column.Kind.{Kind}
use Rattle.item_schema.specs.declared.column.Kind.TheVariants as kind
use Rattle.query_model.specs.Queries.{Qre}
use Rattle.answer_units.specs.ExpressionScales.{scale_at}
use Rattle.answer_units.specs.QueryScales.{query_scales}
use Rattle.answer_units.specs.Scales.{column_scale}
use Rattle.answer_units.specs.declared.scale.Scale.{Scale}
use Rattle.answer_units.specs.declared.scale.Scale.TheVariants as scale
use Rattle.answer_units.specs.declared.units.Units.{Units}
use Rattle.answer_units.specs.declared.units.Units.TheVariants.{Digits, Whole, Mixed}

-- the units of numbers of a scale: constants alone are whole numbers
abbrev pub units_of : Scale → Units
units_of scale.Any = Whole
units_of scale.Round = Whole
units_of (scale.Digits digits) = if nat_eq digits 0 then Whole else Digits digits
units_of scale.Unknown = Mixed

-- whether two units are the same
abbrev pub are_same : Units → Units → Bool
are_same (Digits first) (Digits second) = nat_eq first second
are_same Whole Whole = true
are_same Mixed Mixed = true
are_same first second = false

-- the units of all numbers of a value, where they are the same
abbrev pub common_units : List Scale → Units
common_units scales =
    let first : Units = units_of (scale_at scales 0) in
    if list_all (λ scale. are_same first (units_of scale)) scales then first else Mixed

-- the units of the answers of a query on these columns
abbrev pub answer_units : List Column → Qre → Units
answer_units columns query =
    common_units (query_scales (map (λ column. column_scale column.kind) columns) query)

-- no more digits than a column may have, and at least one
abbrev pub HasFewDigits : Units → Type 0
HasFewDigits (Digits digits) = (1 ≤ digits) × (digits ≤ 9)
HasFewDigits Whole = Unit {0}
HasFewDigits Mixed = Unit {0}

-- no column of this kind has digits after the point
abbrev pub HasNoPoint : Kind → Type 0
HasNoPoint kind.Int = Unit {0}
HasNoPoint (kind.Fixed digits) = ⊥
HasNoPoint kind.Text = Unit {0}
HasNoPoint kind.Number = Unit {0}
HasNoPoint kind.Table = Unit {0}
