-- An item is found exactly where the texts of a line write it.
use Rattle.std.proofs.Common.{◌≡◌, ℕ, ◌+◌, ◌==◌, ℤ, suc, nat_lt, List, [], ◌∷◌, length, get_or, Ok}
use Rattle.std.proofs.Common.{refl, ap, arith, FitsSigned, w64}
use Rattle.std.specs.List.{list_any}
use Rattle.std.specs.Str.Parse.{signed_digits_value, without_leading_sign}
use Rattle.std.proofs.lemmas.Bool.{eq-eqb, eqb-false, ne_eqb}
use Rattle.std.proofs.lemmas.List.Folds.{list_any_none}
use Rattle.line_reader.proofs.Cuts.{All-none}
use Rattle.std.proofs.lemmas.Bool.Decides.{nat_tests}
use Rattle.value_ops.specs.declared.field.Field.{Field}
use Rattle.value_ops.specs.declared.field.Field.TheVariants as field
use Rattle.item_schema.specs.declared.column.Column.{Column}
use Rattle.item_schema.specs.declared.column.Kind.{Kind}
use Rattle.item_schema.specs.declared.column.Kind.TheVariants.{Int, Fixed, Text, Number, Table}
use Rattle.line_reader.specs.Reading.{field_of, fields_of, fraction_of, in_column, is_decimal}
use Rattle.line_reader.specs.Reading.{is_numeral, item_of, record_of, signed, units, whole_of}
use Rattle.line_reader.specs.Written.{WriteAll, Writes, WritesDecimal, WritesItem, WritesWhole}
use Rattle.line_reader.proofs.Items.{fails_is, in_column_is, passes_is, row_is, stored_fits}
use Rattle.line_reader.proofs.Items.{stored_is, with_field_is}
use Rattle.line_reader.proofs.WrittenNumbers.{decimal_form, decimal_writes, whole_form}
use Rattle.line_reader.proofs.WrittenNumbers.{whole_writes}

-- a whole number that is read is one that the text writes
whole_from_field : (text : List ℕ) (kept : Field) → field_of Int text ≡ Ok kept
    → Writes Int text kept
whole_from_field text kept is =
    let form = passes_is (is_numeral (without_leading_sign text)) _ _ kept is in
    let number = stored_is (signed_digits_value 10 text) kept form.1 in
    rw number.0 (whole_writes text form.0, number.1)

-- and so is a decimal number
decimal_from_field : (places : ℕ) (text : List ℕ) (kept : Field)
    → field_of (Fixed places) text ≡ Ok kept → Writes (Fixed places) text kept
decimal_from_field places text kept is =
    let form = passes_is (is_decimal text) _ _ kept is in
    let few = fails_is (nat_lt places (length (fraction_of text))) _ _ kept form.1 in
    let number =
    stored_is (signed text (units places (whole_of text) (fraction_of text))) kept few.1 in
    rw number.0 (decimal_writes places text form.0 (grind (arith, nat_tests, few.0)), number.1)

-- a field that is read is one that the text writes
pub field_writes : (kind : Kind) (text : List ℕ) (kept : Field) → field_of kind text ≡ Ok kept
    → Writes kind text kept
field_writes Int text kept is = whole_from_field text kept is
field_writes (Fixed places) text kept is = decimal_from_field places text kept is
field_writes Text text kept is =
    let same : kept ≡ field.Text text = cc in
    rw same refl
field_writes Number text kept is = absurd (cc)
field_writes Table text kept is = absurd (cc)

-- a whole number that a text writes is read
whole_is_read : (text : List ℕ) (number : ℤ) → WritesWhole text number → FitsSigned w64 number
    → field_of Int text ≡ Ok (field.Int number)
whole_is_read text number writes fits =
    let has = whole_form text number writes in
    rw (has.form, has.value) (stored_fits number fits)

-- and so is a decimal number
decimal_is_read : (places : ℕ) (text : List ℕ) (number : ℤ) → WritesDecimal places text number
    → FitsSigned w64 number → field_of (Fixed places) text ≡ Ok (field.Int number)
decimal_is_read places text number writes fits =
    let has = decimal_form places text number writes in
    rw (has.form, has.few, has.value) (stored_fits number fits)

-- a field that a text writes is read
pub writes_field : (kind : Kind) (text : List ℕ) (kept : Field) → Writes kind text kept
    → field_of kind text ≡ Ok kept
writes_field Int text (field.Int number) writes = whole_is_read text number writes.0 writes.1
writes_field (Fixed places) text (field.Int number) writes =
    decimal_is_read places text number writes.0 writes.1
writes_field Text text (field.Text bytes) writes = ap (λ bytes. Ok (field.Text bytes)) writes
writes_field kind text kept writes = absurd writes

-- fields that are read are those that the texts write
fields_write : (at : ℕ) (columns : List Column) (texts : List (List ℕ)) (fields : List Field)
    → fields_of at columns texts ≡ Ok fields → WriteAll columns texts fields
fields_write at [] [] fields is = let none : fields ≡ [] = cc in rw none tt
fields_write at (column ∷ columns) (text ∷ texts) fields is =
    let (first, rest, reads, others, both) = with_field_is
    (in_column at (field_of column.kind text)) (fields_of (at + 1) columns texts) fields is in
    rw both (
      field_writes column.kind text first (in_column_is at _ first reads),
      fields_write (at + 1) columns texts rest others,
    )
fields_write at [] (text ∷ texts) fields is = absurd (cc)
fields_write at (column ∷ columns) [] fields is = absurd (cc)

-- and those that they write are read
write_fields : (at : ℕ) (columns : List Column) (texts : List (List ℕ)) (fields : List Field)
    → WriteAll columns texts fields
    → (length texts ≡ length columns) × (fields_of at columns texts ≡ Ok fields)
write_fields at [] [] [] writes = (refl, refl)
write_fields at (column ∷ columns) (text ∷ texts) (first ∷ fields) writes =
    let others = write_fields (at + 1) columns texts fields writes.1 in
    (ap suc others.0, rw (writes_field column.kind text first writes.0, others.1) refl)
write_fields at columns texts fields writes = absurd writes

-- an item that is found is written by the line
pub item_is_written : (columns : List Column) (line : List ℕ) (fields : List Field)
    → item_of columns line ≡ Ok fields → WritesItem columns line fields
item_is_written columns line fields is =
    let none = fails_is (list_any (λ b. b == 13) line) _ _ fields is in
    let (texts, row, reads) = row_is columns (record_of line) fields none.1 in
    record {
      texts = texts;
      no_return = λ k d within same. eqb-false (get_or line k d) 13
          (All-none (λ b. b == 13) line none.0 k d within) same;
      row = row;
      written = fields_write 1 columns texts fields reads;
    }

-- and one that is written is found
pub written_is_item : (columns : List Column) (line : List ℕ) (fields : List Field)
    → WritesItem columns line fields → item_of columns line ≡ Ok fields
written_is_item columns line fields writes =
    let none = list_any_none (λ b. b == 13) line
    (λ k d within. ne_eqb (get_or line k d) 13 (writes.no_return k d within)) in
    let reads = write_fields 1 columns writes.texts fields writes.written in
    rw (none, writes.row, eq-eqb (length writes.texts) (length columns) reads.0) reads.1
