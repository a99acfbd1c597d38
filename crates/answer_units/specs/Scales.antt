-- Statement. How many digits after the point a number has that is computed of others.
use Rattle.std.specs.Prelude.{ℕ, ℤ, pos, ◌+◌, ◌-◌, ◌&&◌, not, int_rem, nat_eq, nat_le}
use Rattle.std.specs.Prelude.{if◌then◌else◌}
use Rattle.std.specs.Ordering.{int_eq}
use Rattle.language_base.specs.declared.binary.BinaryOp.{BinaryOp}
use Rattle.language_base.specs.declared.binary.BinaryOp.TheVariants.{Add, Sub, Mul, Div, Rem, Min}
use Rattle.language_base.specs.declared.binary.BinaryOp.TheVariants.{Max}
use Rattle.item_schema.specs.declared.column.Kind.{Kind}
use Rattle.item_schema.specs.declared.column.Kind.TheVariants as kind
use Rattle.answer_units.specs.declared.scale.Scale.{Scale}
use Rattle.answer_units.specs.declared.scale.Scale.TheVariants.{Any, Digits, Round, Unknown}

-- this many digits, if they are no more than a column may have
abbrev pub few_digits : ℕ → Scale
few_digits digits = if nat_le digits 9 then Digits digits else Unknown

-- the scale of what stands in a column
abbrev pub column_scale : Kind → Scale
column_scale kind.Int = Digits 0
column_scale (kind.Fixed digits) = few_digits digits
column_scale kind.Text = Unknown
column_scale kind.Number = Unknown
column_scale kind.Table = Unknown

-- the scale of a constant: whether it is a multiple of ten, by which units are changed
abbrev pub literal_scale : ℤ → Scale
literal_scale number =
    if not (int_eq number (pos 0)) && int_eq (int_rem number (pos 10)) (pos 0) then Round else Any

-- of a number that is one of two, or their sum or difference: as many digits as each of them has,
-- where a constant has those of the other
abbrev pub alike : Scale → Scale → Scale
alike Any second = second
alike Round Any = Round
alike Round second = second
alike (Digits first) Any = Digits first
alike (Digits first) Round = Digits first
alike (Digits first) (Digits second) = if nat_eq first second then Digits first else Unknown
alike (Digits first) Unknown = Unknown
alike Unknown second = Unknown

-- of a number with so many digits whose unit may be changed: a whole number stays one
abbrev pub changed : ℕ → Scale
changed digits = if nat_eq digits 0 then Digits 0 else Unknown

-- of a product: the digits of both together, where a constant is a whole number
abbrev pub product_scale : Scale → Scale → Scale
product_scale Any second = second
product_scale Round Any = Round
product_scale Round Round = Round
product_scale Round (Digits second) = changed second
product_scale Round Unknown = Unknown
product_scale (Digits first) Any = Digits first
product_scale (Digits first) Round = changed first
product_scale (Digits first) (Digits second) = few_digits (first + second)
product_scale (Digits first) Unknown = Unknown
product_scale Unknown second = Unknown

-- of a quotient: the digits of the dividend less those of the divisor, where a constant is a whole
-- number
abbrev pub quotient_scale : Scale → Scale → Scale
quotient_scale Any Any = Any
quotient_scale Any Round = Round
quotient_scale Any (Digits second) = changed second
quotient_scale Any Unknown = Unknown
quotient_scale Round Any = Round
quotient_scale Round Round = Round
quotient_scale Round (Digits second) = changed second
quotient_scale Round Unknown = Unknown
quotient_scale (Digits first) Any = Digits first
quotient_scale (Digits first) Round = changed first
quotient_scale (Digits first) (Digits second) =
    if nat_le second first then Digits (first - second) else Unknown
quotient_scale (Digits first) Unknown = Unknown
quotient_scale Unknown second = Unknown

-- of what an operator gives on two numbers
abbrev pub scale_by : BinaryOp → Scale → Scale → Scale
scale_by Add first second = alike first second
scale_by Sub first second = alike first second
scale_by Mul first second = product_scale first second
scale_by Div first second = quotient_scale first second
scale_by Rem first second = alike first second
scale_by Min first second = alike first second
scale_by Max first second = alike first second
