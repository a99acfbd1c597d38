-- Statement. The item of a line, or the first cause why it has none.
use Rattle.std.specs.Prelude.{◌≡◌, ℕ, ◌+◌, ◌-◌, ◌*◌, ◌^◌, ◌==◌, ◌&&◌, ◌||◌, not, ℤ, pos, negsuc}
use Rattle.std.specs.Prelude.{neg_ℤ, Bool, nat_lt, if◌then◌else◌, List, [], ◌∷◌, ◌++◌, drop, length}
use Rattle.std.specs.Prelude.{Option, None, Some, Result, Ok, Err, option_map}
use Rattle.std.specs.List.{list_all, list_any, before_first, after_first}
use Rattle.std.specs.Char.{is_ascii_digit}
use Rattle.std.specs.Str.Parse.{starts_with_minus, without_leading_sign, signed_digits_value}
use Rattle.std.specs.Str.Parse.{digits_value}
use Rattle.csv.specs.Machine.{next_record}
use Rattle.csv.specs.Reading.{default_config, strip_bom}
use Rattle.csv.specs.declared.parser.State.TheVariants as st
use Rattle.value_ops.specs.declared.field.Field.{Field}
use Rattle.value_ops.specs.declared.field.Field.TheVariants as field
use Rattle.item_schema.specs.declared.column.Column.{Column}
use Rattle.item_schema.specs.declared.column.Kind.{Kind}
use Rattle.item_schema.specs.declared.column.Kind.TheVariants.{Int, Fixed, Text, Number, Table}
use Rattle.line_reader.specs.declared.stop.ItemStop.{ItemStop}
use Rattle.line_reader.specs.declared.stop.ItemStop.TheVariants as stop
use Rattle.line_reader.specs.declared.stop.Skip.{Skip}
use Rattle.line_reader.specs.declared.stop.Cause.{Cause}
use Rattle.line_reader.specs.declared.stop.Cause.TheVariants as cause

-- one digit or more, and nothing else
abbrev pub is_numeral : List ℕ → Bool
is_numeral digits = nat_lt 0 (length digits) && list_all is_ascii_digit digits

-- a decimal point
abbrev pub is_point : ℕ → Bool
is_point byte = byte == 46

-- what stands before the point, after a sign
abbrev pub whole_of : List ℕ → List ℕ
whole_of bytes = before_first is_point (without_leading_sign bytes)

-- what stands after the point
abbrev pub fraction_of : List ℕ → List ℕ
fraction_of bytes = after_first is_point (without_leading_sign bytes)

-- a sign or none, digits, and then a point and digits or neither
abbrev pub is_decimal : List ℕ → Bool
is_decimal bytes = is_numeral (whole_of bytes)
    && (not (list_any is_point (without_leading_sign bytes)) || is_numeral (fraction_of bytes))

-- the number of this size with the sign that the bytes begin with
abbrev pub signed : List ℕ → ℕ → ℤ
signed bytes size = if starts_with_minus bytes then neg_ℤ (pos size) else pos size

-- what digits before a point and after it write, times this many tens
abbrev pub units : ℕ → List ℕ → List ℕ → ℕ
units places whole fraction =
    digits_value 10 whole * 10 ^ places + digits_value 10 fraction * 10 ^ (places - length fraction)

-- the number, if it is from -2^63 to 2^63 - 1
abbrev pub stored : ℤ → Result Field Cause
stored (pos n) = if nat_lt n (2 ^ 63) then Ok (field.Int (pos n)) else Err cause.Range
stored (negsuc n) = if nat_lt n (2 ^ 63) then Ok (field.Int (negsuc n)) else Err cause.Range

-- the field of a column of this kind that the bytes write, or the first cause why they write none
abbrev pub field_of : Kind → List ℕ → Result Field Cause
field_of Int bytes =
    if is_numeral (without_leading_sign bytes) then stored (signed_digits_value 10 bytes)
    else Err cause.Number
field_of (Fixed places) bytes =
    if is_decimal bytes
    then (if nat_lt places (length (fraction_of bytes)) then Err cause.Digits
    else stored (signed bytes (units places (whole_of bytes) (fraction_of bytes))))
    else Err cause.Number
field_of Text bytes = Ok (field.Text bytes)
field_of Number bytes = Err cause.Number
field_of Table bytes = Err cause.Number

-- a line left out for a cause in a column
abbrev pub skip : Cause → ℕ → Skip
skip cause column = record { cause = cause; column = column }

-- a field of the column of this number, or the line left out for its cause
abbrev pub in_column : ℕ → Result Field Cause → Result Field Skip
in_column column (Ok field) = Ok field
in_column column (Err cause) = Err (skip cause column)

-- a first field before those of the columns after it
abbrev pub with_field : Result Field Skip → Result (List Field) Skip → Result (List Field) Skip
with_field (Ok field) (Ok fields) = Ok (field ∷ fields)
with_field (Ok field) (Err stop) = Err stop
with_field (Err stop) rest = Err stop

-- the fields of columns, the first of which has this number, or the first cause from left to right
abbrev pub fields_of : ℕ → List Column → List (List ℕ) → Result (List Field) Skip
fields_of at [] [] = Ok []
fields_of at (column ∷ columns) (bytes ∷ texts) =
    with_field (in_column at (field_of column.kind bytes)) (fields_of (at + 1) columns texts)
fields_of at _ _ = Err (skip cause.Columns 0)

-- fields that were read before others
abbrev pub after : List Field → Result (List Field) Skip → Result (List Field) Skip
after fields (Ok others) = Ok (fields ++ others)
after fields (Err stop) = Err stop

-- the fields of the columns, where those of the first columns are read and these texts are left
abbrev pub read_on : List Column → List Field → List (List ℕ) → Result (List Field) Skip
read_on columns fields texts =
    after fields (fields_of (length fields + 1) (drop (length fields) columns) texts)

-- the item of what stands in the columns, where there is a record
abbrev pub item_of_record : List Column → Option (List (List ℕ)) → Result (List Field) Skip
item_of_record columns None = Err (skip cause.Columns 0)
item_of_record columns (Some texts) =
    if length texts == length columns then fields_of 1 columns texts else Err (skip cause.Columns 0)

-- the first record that `csv` reads of a line by itself
abbrev pub record_of : List ℕ → Option (List (List ℕ))
record_of line =
    option_map (λ read. read.0) (next_record default_config st.StartRecord [] [] (strip_bom line))

-- the item of a line, or why it has none
abbrev pub item_of : List Column → List ℕ → Result (List Field) Skip
item_of columns line =
    if list_any (λ byte. byte == 13) line then Err (skip cause.Cr 0)
    else item_of_record columns (record_of line)

-- the stop is what this outcome skips for, or there was no memory
abbrev pub IsStopOf : {A : Type 0} → Result A Skip → ItemStop → Type 0
IsStopOf outcome (stop.Skip skip) = outcome ≡ Err skip
IsStopOf outcome stop.Memory = Unit {0}
