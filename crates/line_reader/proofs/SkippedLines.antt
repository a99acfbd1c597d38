-- A line is left out exactly for what its texts fail in.
use Rattle.std.proofs.Common.{◌≡◌, ℕ, ◌+◌, ◌<◌, ◌==◌, inl, inr, ℤ, pos, negsuc, Bool, true, false}
use Rattle.std.proofs.Common.{if◌then◌else◌, nat_lt, List, [], ◌∷◌, length, get_or, Option, Some}
use Rattle.std.proofs.Common.{None, Result, Ok, Err, refl, sym, ◌∙◌, arith, FitsSigned, w64}
use Rattle.std.specs.List.{Contains, list_any, position_or_len}
use Rattle.std.specs.Str.Parse.{signed_digits_value, without_leading_sign}
use Rattle.std.proofs.lemmas.Bool.{eq-eqb, eqb-true, eqb-false, ne_eqb, true≢false}
use Rattle.std.proofs.lemmas.Bool.Decides.{nat_tests}
use Rattle.std.proofs.lemmas.Grind.{common_steps}
use Rattle.std.proofs.lemmas.List.Folds.{list_any_at, list_any_none}
use Rattle.std.proofs.lemmas.List.Sums.{passes_at_first}
use Rattle.value_ops.specs.declared.field.Field.{Field}
use Rattle.item_schema.specs.declared.column.Column.{Column}
use Rattle.item_schema.specs.declared.column.Kind.{Kind}
use Rattle.item_schema.specs.declared.column.Kind.TheVariants.{Int, Fixed, Text, Number, Table}
use Rattle.line_reader.specs.declared.stop.Cause.{Cause}
use Rattle.line_reader.specs.declared.stop.Cause.TheVariants as cause
use Rattle.line_reader.specs.declared.stop.Skip.{Skip}
use Rattle.line_reader.specs.Reading.{field_of, fields_of, fraction_of, in_column, is_decimal}
use Rattle.line_reader.specs.Reading.{is_numeral, item_of, item_of_record, record_of, signed, skip}
use Rattle.line_reader.specs.Reading.{stored, units, whole_of, with_field}
use Rattle.line_reader.specs.Skipped.{FailsFirst, FailsFor, HasFailure, HasNoReturn, HasOtherTexts}
use Rattle.line_reader.specs.Skipped.{IsDecimal, SkipsLine}
use Rattle.line_reader.specs.Written.{WritesDecimal, WritesWhole}
use Rattle.line_reader.proofs.Cuts.{All-none, is_found}
use Rattle.line_reader.proofs.WrittenItems.{field_writes, writes_field}
use Rattle.line_reader.proofs.WrittenNumbers.{decimal_form, decimal_writes, whole_form}
use Rattle.line_reader.proofs.WrittenNumbers.{whole_writes}

-- a number that is not stored does not fit
not_stored : (number : ℤ) (why : Cause) → stored number ≡ Err why
    → (why ≡ cause.Range) × ¬ FitsSigned w64 number
not_stored (pos n) why is = grind (arith, common_steps)
not_stored (negsuc n) why is = grind (arith, common_steps)

-- and one that does not fit is not stored
stored_not : (number : ℤ) → ¬ FitsSigned w64 number → stored number ≡ Err cause.Range
stored_not (pos n) unfit = grind (arith, common_steps)
stored_not (negsuc n) unfit = grind (arith, common_steps)

-- a text that is no whole number
no_whole : (text : List ℕ) → is_numeral (without_leading_sign text) ≡ false → (number : ℤ)
    → ¬ WritesWhole text number
no_whole text form number writes = true≢false (sym (whole_form text number writes).form ∙ form)

-- a cause of a whole number's column
whole_fails : (text : List ℕ) (why : Cause) (form : Bool)
    → is_numeral (without_leading_sign text) ≡ form
    → (if form then stored (signed_digits_value 10 text) else Err cause.Number) ≡ Err why
    → FailsFor why Int text
whole_fails text why true form is =
    let (range, unfit) = not_stored (signed_digits_value 10 text) why is in
    rw range (signed_digits_value 10 text, whole_writes text form, unfit)
whole_fails text why false form is =
    let number : why ≡ cause.Number = cc in
    rw number (no_whole text form)

-- the other way round
fails_whole : (text : List ℕ) (why : Cause) (form : Bool)
    → is_numeral (without_leading_sign text) ≡ form → FailsFor why Int text
    → (if form then stored (signed_digits_value 10 text) else Err cause.Number) ≡ Err why
fails_whole text cause.Number true form fails = absurd (fails _ (whole_writes text form))
fails_whole text cause.Number false form fails = refl
fails_whole text cause.Range form is (number, writes, unfit) =
    let has = whole_form text number writes in
    let passes : form ≡ true = sym is ∙ has.form in
    rw passes (stored_not (signed_digits_value 10 text) (rw has.value unfit))
fails_whole text why form is fails = absurd fails

-- a text that is no decimal number
no_decimal : (text : List ℕ) → is_decimal text ≡ false → ¬ IsDecimal text
no_decimal text form (digits, number, writes) =
    true≢false (sym (decimal_form digits text number writes).form ∙ form)

-- and one with too many digits
too_many : (places : ℕ) (text : List ℕ) → nat_lt places (length (fraction_of text)) ≡ true
    → (number : ℤ) → ¬ WritesDecimal places text number
too_many places text many number writes =
    true≢false (sym many ∙ (decimal_form places text number writes).few)

-- what the digits of a decimal number count
abbrev count_of : ℕ → List ℕ → ℤ
count_of places text = signed text (units places (whole_of text) (fraction_of text))

-- the field of a decimal number, by the tests of its form
abbrev tested : ℕ → List ℕ → Bool → Bool → Result Field Cause
tested places text form many =
    if form then (if many then Err cause.Digits else stored (count_of places text))
    else Err cause.Number

-- a cause of a column of fixed point
decimal_fails : (places : ℕ) (text : List ℕ) (why : Cause) (form many : Bool)
    → is_decimal text ≡ form → nat_lt places (length (fraction_of text)) ≡ many
    → tested places text form many ≡ Err why → FailsFor why (Fixed places) text
decimal_fails places text why true true form many is =
    let digits : why ≡ cause.Digits = cc in
    let any = length (fraction_of text) in
    rw digits (
      (any, count_of any text, decimal_writes any text form (omega arith)),
      too_many places text many,
    )
decimal_fails places text why true false form many is =
    let (range, unfit) = not_stored (count_of places text) why is in
    rw range
    (count_of places text, decimal_writes places text form (grind (arith, nat_tests)), unfit)
decimal_fails places text why false many form few is =
    let number : why ≡ cause.Number = cc in
    rw number (no_decimal text form)

-- the other way round
fails_decimal : (places : ℕ) (text : List ℕ) (why : Cause) (form many : Bool)
    → is_decimal text ≡ form → nat_lt places (length (fraction_of text)) ≡ many
    → FailsFor why (Fixed places) text → tested places text form many ≡ Err why
fails_decimal places text cause.Number true many form few fails =
    let any = length (fraction_of text) in
    absurd (fails (any, count_of any text, decimal_writes any text form (omega arith)))
fails_decimal places text cause.Number false many form few fails = refl
fails_decimal places text cause.Digits true true form many fails = refl
fails_decimal places text cause.Digits true false form many fails =
    absurd (fails.1 _ (decimal_writes places text form (grind (arith, nat_tests))))
fails_decimal places text cause.Digits false many form few fails =
    absurd (no_decimal text form fails.0)
fails_decimal places text cause.Range form many is few (number, writes, unfit) =
    let has = decimal_form places text number writes in
    let passes : form ≡ true = sym is ∙ has.form in
    let fewer : many ≡ false = sym few ∙ has.few in
    rw (passes, fewer) (stored_not (count_of places text) (rw has.value unfit))
fails_decimal places text why form many is few fails = absurd fails

-- a text that is not read fails for the cause
field_fails : (kind : Kind) (text : List ℕ) (why : Cause) → field_of kind text ≡ Err why
    → FailsFor why kind text
field_fails Int text why is = whole_fails text why (is_numeral (without_leading_sign text)) refl is
field_fails (Fixed places) text why is =
    decimal_fails places text why (is_decimal text)
    (nat_lt places (length (fraction_of text))) refl refl is
field_fails Text text why is = absurd (cc)
field_fails Number text why is = let number : why ≡ cause.Number = cc in rw number tt
field_fails Table text why is = let number : why ≡ cause.Number = cc in rw number tt

-- and one that fails is not read
fails_field : (kind : Kind) (text : List ℕ) (why : Cause) → FailsFor why kind text
    → field_of kind text ≡ Err why
fails_field Int text why fails =
    fails_whole text why (is_numeral (without_leading_sign text)) refl fails
fails_field (Fixed places) text why fails =
    fails_decimal places text why (is_decimal text)
    (nat_lt places (length (fraction_of text))) refl refl fails
fails_field Number text cause.Number fails = refl
fails_field Table text cause.Number fails = refl
fails_field kind text cause.Long fails = absurd fails
fails_field kind text cause.Cr fails = absurd fails
fails_field kind text cause.Columns fails = absurd fails
fails_field kind text cause.Number fails = absurd fails
fails_field kind text cause.Range fails = absurd fails
fails_field kind text cause.Digits fails = absurd fails

-- what stops the others stops all where the first field is read
others_stop : (field : Field) (others : Result (List Field) Skip) (why : Skip)
    → with_field (Ok field) others ≡ Err why → others ≡ Err why
others_stop field (Ok fields) why is = absurd (cc)
others_stop field (Err stop) why is = is

-- fields that are not read have a first one that fails
fields_fail : (at : ℕ) (columns : List Column) (texts : List (List ℕ)) (why : Skip)
    → length texts ≡ length columns → fields_of at columns texts ≡ Err why
    → FailsFirst at columns texts why.cause why.column
fields_fail at [] [] why each is = absurd (cc)
fields_fail at [] (text ∷ texts) why each is = absurd (omega arith)
fields_fail at (column ∷ columns) [] why each is = absurd (omega arith)
fields_fail at (column ∷ columns) (text ∷ texts) why each is =
    by_first (field_of column.kind text) refl is
    (fields_fail (at + 1) columns texts why (omega arith))
  where
    by_first : (first : Result Field Cause) → field_of column.kind text ≡ first
        → with_field (in_column at first) (fields_of (at + 1) columns texts) ≡ Err why
        → (fields_of (at + 1) columns texts ≡ Err why
        → FailsFirst (at + 1) columns texts why.cause why.column)
        → FailsFirst at (column ∷ columns) (text ∷ texts) why.cause why.column
    by_first (Ok field) reads stops later =
        inr (
          (field, field_writes column.kind text field reads),
          later (others_stop field _ why stops),
        )
    by_first (Err cause) reads stops later =
        let same : skip cause at ≡ why = cc in
        rw (← same) (inl (field_fails column.kind text cause reads, refl))

-- and those with a first one that fails are not read
fails_fields : (at : ℕ) (columns : List Column) (texts : List (List ℕ)) (why : Cause) (number : ℕ)
    → FailsFirst at columns texts why number → fields_of at columns texts ≡ Err (skip why number)
fails_fields at (column ∷ columns) (text ∷ texts) why number (inl first) =
    rw (fails_field column.kind text why first.0, first.1) refl
fails_fields at (column ∷ columns) (text ∷ texts) why number (inr later) =
    rw (
      writes_field column.kind text later.0.0 later.0.1,
      fails_fields (at + 1) columns texts why number later.1,
    ) refl
fails_fields at columns texts why number fails = absurd fails

-- a text fails for one of three causes
one_of_three : (at : ℕ) (columns : List Column) (texts : List (List ℕ)) (why : Cause) (number : ℕ)
    (Other : Type 0) → ((kind : Kind) (text : List ℕ) → FailsFor why kind text → Other)
    → FailsFirst at columns texts why number → Other
one_of_three at (column ∷ columns) (text ∷ texts) why number Other other (inl first) =
    other column.kind text first.0
one_of_three at (column ∷ columns) (text ∷ texts) why number Other other (inr later) =
    one_of_three (at + 1) columns texts why number Other other later.1
one_of_three at columns texts why number Other other fails = absurd fails

-- a line with a first text that fails is left out
failure_skips : (columns : List Column) (line : List ℕ) (why : Cause) (number : ℕ)
    → HasFailure columns line why number → SkipsLine columns line (skip why number)
failure_skips columns line cause.Long number has =
    one_of_three 1 columns has.texts cause.Long number _ (λ kind text fails. absurd fails) has.first
failure_skips columns line cause.Cr number has =
    one_of_three 1 columns has.texts cause.Cr number _ (λ kind text fails. absurd fails) has.first
failure_skips columns line cause.Columns number has = one_of_three 1 columns has.texts cause.Columns
    number _ (λ kind text fails. absurd fails) has.first
failure_skips columns line cause.Number number has = has
failure_skips columns line cause.Range number has = has
failure_skips columns line cause.Digits number has = has

-- a CR
abbrev is_return : ℕ → Bool
is_return byte = byte == 13

-- a line without CR
no_return : (line : List ℕ) → list_any is_return line ≡ false → HasNoReturn line
no_return line none k d within same =
    eqb-false (get_or line k d) 13 (All-none is_return line none k d within) same

none_returns : (line : List ℕ) → HasNoReturn line → list_any is_return line ≡ false
none_returns line none =
    list_any_none is_return line (λ k d within. ne_eqb (get_or line k d) 13 (none k d within))

-- a line with one
has_return : (line : List ℕ) → list_any is_return line ≡ true → Contains line 13
has_return line some =
    let within : position_or_len is_return line < length line =
    grind (arith, nat_tests, is_found is_return line) in (
      position_or_len is_return line,
      within,
      eqb-true _ _ (passes_at_first is_return line 13 within),
    )

some_returns : (line : List ℕ) → Contains line 13 → list_any is_return line ≡ true
some_returns line has = list_any_at is_return line has.0 13 has.1 (eq-eqb _ _ has.2)

-- why a line without CR has no item
row_skips : (columns : List Column) (line : List ℕ) (why : Skip) (row : Option (List (List ℕ)))
    → HasNoReturn line → record_of line ≡ row → item_of_record columns row ≡ Err why
    → SkipsLine columns line why
row_skips columns line why None none is stops =
    let same : skip cause.Columns 0 ≡ why = cc in
    rw (← same) (refl, record { no_return = none; other = λ texts some. absurd (cc) })
row_skips columns line why (Some texts) none is stops =
    by_count (length texts == length columns) refl stops
  where
    by_count : (each : Bool) → (length texts == length columns) ≡ each
        → (if each then fields_of 1 columns texts else Err (skip cause.Columns 0)) ≡ Err why
        → SkipsLine columns line why
    by_count true each stops =
        let same : length texts ≡ length columns = eqb-true _ _ each in
        failure_skips columns line why.cause why.column record {
          no_return = none;
          texts = texts;
          row = is;
          each = same;
          first = fields_fail 1 columns texts why same stops;
        }
    by_count false each stops =
        let same : skip cause.Columns 0 ≡ why = cc in
        rw (← same) (
          refl,
          record {
            no_return = none;
            other = λ others row same. eqb-false _ _ each
                (let equal : texts ≡ others = cc in rw equal same);
          },
        )

-- a line without an item is left out
pub item_skips : (columns : List Column) (line : List ℕ) (why : Skip)
    → item_of columns line ≡ Err why → SkipsLine columns line why
item_skips columns line why is = by_return (list_any is_return line) refl is
  where
    by_return : (some : Bool) → list_any is_return line ≡ some
        → (if some then Err (skip cause.Cr 0) else item_of_record columns (record_of line))
        ≡ Err why → SkipsLine columns line why
    by_return true some stops =
        let same : skip cause.Cr 0 ≡ why = cc in
        rw (← same) (refl, has_return line some)
    by_return false none stops =
        row_skips columns line why (record_of line) (no_return line none) refl stops

-- the line has other texts
other_texts : (columns : List Column) (line : List ℕ) (row : Option (List (List ℕ)))
    → record_of line ≡ row → HasOtherTexts columns line
    → item_of_record columns row ≡ Err (skip cause.Columns 0)
other_texts columns line None is has = refl
other_texts columns line (Some texts) is has =
    rw (ne_eqb (length texts) (length columns) (has.other texts is)) refl

-- a line with a first text that fails has no item
failed_item : (columns : List Column) (line : List ℕ) (why : Cause) (number : ℕ)
    → HasFailure columns line why number → item_of columns line ≡ Err (skip why number)
failed_item columns line why number has =
    rw (
      none_returns line has.no_return,
      has.row,
      eq-eqb (length has.texts) (length columns) has.each,
    )
    (fails_fields 1 columns has.texts why number has.first)

-- and one that is left out has none
pub skips_item : (columns : List Column) (line : List ℕ) (why : Cause) (number : ℕ)
    → SkipsLine columns line (skip why number) → item_of columns line ≡ Err (skip why number)
skips_item columns line cause.Long number skips = absurd skips
skips_item columns line cause.Cr number (whole, has) = rw (some_returns line has, whole) refl
skips_item columns line cause.Columns number (whole, has) =
    rw (none_returns line has.no_return, whole) (other_texts columns line (record_of line) refl has)
skips_item columns line cause.Number number has = failed_item columns line cause.Number number has
skips_item columns line cause.Range number has = failed_item columns line cause.Range number has
skips_item columns line cause.Digits number has = failed_item columns line cause.Digits number has
