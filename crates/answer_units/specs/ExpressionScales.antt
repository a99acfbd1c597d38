-- Statement. How many digits after the point the numbers have that an expression gives.
use Rattle.std.specs.Prelude.{ℕ, ◌-◌, List, [], ◌∷◌, Option, Some, None, slice_get}
use Rattle.expressions.specs.Expressions.{Expression, Expressions, literal, read, unary, binary}
use Rattle.expressions.specs.Expressions.{choice, sum, count, most, least, entry, rec, part, none}
use Rattle.expressions.specs.Expressions.{more}
use Rattle.expressions.specs.declared.expr.Var.{Var}
use Rattle.expressions.specs.declared.expr.Var.TheVariants as var
use Rattle.answer_units.specs.Scales.{alike, literal_scale, scale_by}
use Rattle.answer_units.specs.declared.names.Names as given
use Rattle.answer_units.specs.declared.scale.Scale.{Scale}
use Rattle.answer_units.specs.declared.scale.Scale.TheVariants.{Digits, Unknown}

-- The scales of what names stand for: one of each column, and those of the left and the right
-- value. A number has one, and a table has that of its entries; a record has one for each part.
pub record Names : Type 0 where
  pub columns : List Scale
  pub left : List Scale
  pub right : List Scale

-- the same, as an expression is given them
abbrev pub names_of : List Scale → List Scale → List Scale → Names
names_of columns left right = record { columns = columns; left = left; right = right }

-- the same without the references to them
abbrev pub shown_names : given.Names → Names
shown_names names = names_of names.columns.now names.left.now names.right.now

-- a scale that there is
abbrev pub or_unknown : Option Scale → Scale
or_unknown (Some scale) = scale
or_unknown None = Unknown

-- the scale at a place, counted from 0
abbrev pub scale_at : List Scale → ℕ → Scale
scale_at scales place = or_unknown (slice_get scales place)

-- the scales of what a name stands for
abbrev pub scales_named : Names → Var → List Scale
scales_named names (var.Field column) = scale_at names.columns column ∷ []
scales_named names var.Left = names.left
scales_named names var.Right = names.right

-- the scale of the number, or of the table's entries, that a name stands for
abbrev pub scale_named : Names → Var → Scale
scale_named names name = scale_at (scales_named names name) 0

-- the scale of a number that an expression gives
abbrev pub scale_of : Names → Expression → Scale
scale_of names (literal number) = literal_scale number
scale_of names (read name) = scale_named names name
scale_of names (unary op inner) = scale_of names inner
scale_of names (binary op first second) =
    scale_by op (scale_of names first) (scale_of names second)
scale_of names (choice test first second met other) =
    alike (scale_of names met) (scale_of names other)
scale_of names (sum name) = scale_named names name
scale_of names (count name) = Digits 0
scale_of names (most name first) = alike (scale_named names name) (scale_of names first)
scale_of names (least name first) = alike (scale_named names name) (scale_of names first)
scale_of names (entry name key other) = alike (scale_named names name) (scale_of names other)
scale_of names (rec parts) = Unknown
scale_of names (part name place) = scale_at (scales_named names name) (place - 1)

-- the scale of each number that expressions give
abbrev pub part_scales : Names → Expressions → List Scale
part_scales names none = []
part_scales names (more first rest) = scale_of names first ∷ part_scales names rest

-- the scales of the value that an expression gives
abbrev pub scales_of : Names → Expression → List Scale
scales_of names (read name) = scales_named names name
scales_of names (rec parts) = part_scales names parts
scales_of names expression = scale_of names expression ∷ []
