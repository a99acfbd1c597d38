-- What an item of a line is.
use Rattle.std.proofs.Common.{◌≡◌, ℕ, ◌+◌, ◌==◌, ℤ, pos, negsuc, Bool, true, false, if◌then◌else◌}
use Rattle.std.proofs.Common.{List, [], ◌∷◌, length, nat_lt, Option, Some, None, Result, Ok, Err}
use Rattle.std.proofs.Common.{refl, arith, FitsSigned, w64}
use Rattle.std.specs.List.{list_any}
use Rattle.std.specs.Str.Parse.{signed_digits_value, without_leading_sign}
use Rattle.std.proofs.lemmas.Grind.{common_steps}
use Rattle.std.proofs.lemmas.Bool.{and_parts}
use Rattle.value_ops.specs.Texts.{IsText, are_bytes}
use Rattle.value_ops.specs.declared.field.Field.{Field}
use Rattle.value_ops.specs.declared.field.Field.TheVariants as field
use Rattle.item_schema.specs.declared.column.Column.{Column}
use Rattle.item_schema.specs.declared.column.Kind.{Kind}
use Rattle.item_schema.specs.declared.column.Kind.TheVariants.{Int, Fixed, Text, Number, Table}
use Rattle.line_reader.specs.declared.stop.Cause.{Cause}
use Rattle.line_reader.specs.declared.stop.Skip.{Skip}
use Rattle.item_schema.specs.Items.{IsFieldOf, IsItemOf}
use Rattle.line_reader.proofs.LineBytes.{are_texts, texts_bytes}
use Rattle.line_reader.specs.Reading.{field_of, fields_of, fraction_of, in_column, is_decimal}
use Rattle.line_reader.specs.Reading.{is_numeral, item_of, item_of_record, record_of, signed}
use Rattle.line_reader.specs.Reading.{stored, units, whole_of, with_field}

-- what is stored is the number itself, and fits
pub stored_is : (number : ℤ) (kept : Field) → stored number ≡ Ok kept
    → (kept ≡ field.Int number) × FitsSigned w64 number
stored_is (pos n) kept is = grind (arith, common_steps)
stored_is (negsuc n) kept is = grind (arith, common_steps)

-- a number that fits is stored
pub stored_fits : (number : ℤ) → FitsSigned w64 number → stored number ≡ Ok (field.Int number)
stored_fits (pos n) fits = grind (arith, common_steps)
stored_fits (negsuc n) fits = grind (arith, common_steps)

-- what is given where a test passes
pub passes_is : {A E : Type 0} (test : Bool) (given : Result A E) (error : E) (value : A)
    → (if test then given else Err error) ≡ Ok value → (test ≡ true) × (given ≡ Ok value)
passes_is true given error value is = (refl, is)
passes_is false given error value is = absurd (cc)

-- and where it fails
pub fails_is : {A E : Type 0} (test : Bool) (given : Result A E) (error : E) (value : A)
    → (if test then Err error else given) ≡ Ok value → (test ≡ false) × (given ≡ Ok value)
fails_is true given error value is = absurd (cc)
fails_is false given error value is = (refl, is)

-- the first field and the others, where there is no cause
pub with_field_is : (first : Result Field Skip) (others : Result (List Field) Skip)
    (fields : List Field) → with_field first others ≡ Ok fields
    → (field : Field) × (rest : List Field) × (first ≡ Ok field) × (others ≡ Ok rest)
    × (fields ≡ field ∷ rest)
with_field_is (Ok field) (Ok rest) fields is = (field, rest, refl, refl, cc)
with_field_is (Ok field) (Err stop) fields is = absurd (cc)
with_field_is (Err stop) others fields is = absurd (cc)

-- a field in a column
pub in_column_is : (column : ℕ) (given : Result Field Cause) (field : Field)
    → in_column column given ≡ Ok field → given ≡ Ok field
in_column_is column (Ok field) kept is = cc
in_column_is column (Err cause) kept is = absurd (cc)

-- a stored number is a field of a column of whole numbers
int_is_of : (number : ℤ) (kept : Field) → stored number ≡ Ok kept → IsFieldOf Int kept
int_is_of number kept is =
    let parts = stored_is number kept is in
    rw parts.0 parts.1

-- and of one of fixed point
fixed_is_of : (places : ℕ) (number : ℤ) (kept : Field) → stored number ≡ Ok kept
    → IsFieldOf (Fixed places) kept
fixed_is_of places number kept is =
    let parts = stored_is number kept is in
    rw parts.0 parts.1

-- a field that a text writes is one of its column
pub field_is_of : (kind : Kind) (bytes : List ℕ) (kept : Field) → IsText bytes
    → field_of kind bytes ≡ Ok kept → IsFieldOf kind kept
field_is_of Int bytes kept text is =
    int_is_of (signed_digits_value 10 bytes) kept
    (passes_is (is_numeral (without_leading_sign bytes)) _ _ kept is).1
field_is_of (Fixed places) bytes kept text is =
    let form = (passes_is (is_decimal bytes) _ _ kept is).1 in
    fixed_is_of places (signed bytes (units places (whole_of bytes) (fraction_of bytes))) kept
    (fails_is (nat_lt places (length (fraction_of bytes))) _ _ kept form).1
field_is_of Text bytes kept text is =
    let same : kept ≡ field.Text bytes = cc in
    rw same text
field_is_of Number bytes kept text is = absurd (cc)
field_is_of Table bytes kept text is = absurd (cc)

-- fields that texts of bytes write are those of an item of the columns
pub fields_are_of : (at : ℕ) (columns : List Column) (texts : List (List ℕ)) (fields : List Field)
    → are_texts texts ≡ true → fields_of at columns texts ≡ Ok fields → IsItemOf columns fields
fields_are_of at [] [] fields are is = let none : fields ≡ [] = cc in rw none tt
fields_are_of at (column ∷ columns) (bytes ∷ texts) fields are is =
    let (text, others_are) = and_parts (are_bytes bytes) (are_texts texts) are in
    let (first, rest, reads, others, both) = with_field_is
    (in_column at (field_of column.kind bytes)) (fields_of (at + 1) columns texts) fields is in
    rw both (
      field_is_of column.kind bytes first text (in_column_is at _ first reads),
      fields_are_of (at + 1) columns texts rest others_are others,
    )
fields_are_of at [] (bytes ∷ texts) fields are is = absurd (cc)
fields_are_of at (column ∷ columns) [] fields are is = absurd (cc)

-- a row with an item has texts that are read
pub row_is : (columns : List Column) (row : Option (List (List ℕ))) (fields : List Field)
    → item_of_record columns row ≡ Ok fields
    → (texts : List (List ℕ)) × (row ≡ Some texts) × (fields_of 1 columns texts ≡ Ok fields)
row_is columns None fields is = absurd (cc)
row_is columns (Some texts) fields is =
    (texts, refl, (passes_is (length texts == length columns) _ _ fields is).1)

-- the item of a line of bytes is one of the columns
pub item_is_of : (columns : List Column) (line : List ℕ) (fields : List Field) → IsText line
    → item_of columns line ≡ Ok fields → IsItemOf columns fields
item_is_of columns line fields text is =
    let (texts, row, reads) = row_is columns (record_of line) fields
    (fails_is (list_any (λ b. b == 13) line) _ _ fields is).1 in
    fields_are_of 1 columns texts fields (texts_bytes line texts text row) reads
