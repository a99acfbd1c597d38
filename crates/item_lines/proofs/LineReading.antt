-- The line of an item is read to the item.
use Rattle.std.proofs.Common.{◌≡◌, ℕ, ◌+◌, ◌<◌, ◌&&◌, ◌==◌, ℤ, suc, Bool, true, false, nat_lt}
use Rattle.std.proofs.Common.{nat_le, IsTrue, List, [], ◌∷◌, ◌++◌, length, codes, Ok, refl, sym, ap}
use Rattle.std.proofs.Common.{◌∙◌, append_assoc, FitsSigned, w64, arith}
use Rattle.std.specs.List.{flat_map, list_all, list_any, starts_with}
use Rattle.std.proofs.lemmas.Bool.{and_parts}
use Rattle.std.proofs.lemmas.Bool.Decides.{nat_tests}
use Rattle.value_ops.specs.declared.field.Field.{Field}
use Rattle.value_ops.specs.declared.field.Field.TheVariants as field
use Rattle.item_schema.specs.declared.column.Column.{Column}
use Rattle.item_schema.specs.declared.column.Kind.{Kind}
use Rattle.item_schema.specs.declared.column.Kind.TheVariants.{Int, Fixed, Text, Number, Table}
use Rattle.line_reader.specs.CutLines.{mark, texts_in}
use Rattle.item_schema.specs.Items.{IsFieldOf, IsItemOf}
use Rattle.item_schema.specs.Layout.{are_columns, are_distinct, has_digits, is_read}
use Rattle.line_reader.specs.Reading.{fields_of, item_of}
use Rattle.line_reader.proofs.CutLines.{cut_item_of, strip_bom-none}
use Rattle.line_reader.proofs.WrittenItems.{writes_field}
use Rattle.language_base.specs.Limits.{max_columns}
use Rattle.item_lines.specs.Lines.{byte_text, field_text, is_delimiter, is_shown, line_of}
use Rattle.item_lines.specs.Lines.{number_text, typed_text}
use Rattle.item_lines.specs.RawTexts.{raw_text, raw_texts}
use Rattle.item_lines.proofs.FieldBytes.{is_field, is_field_byte, no_delimiters, number_is}
use Rattle.item_lines.proofs.FieldBytes.{number_is_some}
use Rattle.item_lines.proofs.FieldCuts.{IsCutTo, bare_cut, text_cut}
use Rattle.item_lines.proofs.Numbers.{field_writes, is_small}
use Rattle.item_lines.proofs.Unbroken.{shown_unbroken}

-- the columns are of kinds that lines are read to
abbrev pub are_read : List Column → Bool
are_read columns = list_all (λ (c : Column). has_digits c.kind && is_read c.kind) columns

-- bytes that do not begin with a byte order mark
pub record HasPlainFront (bytes : List ℕ) : Type 0 where
  pub byte : ℕ
  pub others : List ℕ
  pub whole : bytes ≡ byte ∷ others
  pub other : (byte == 239) ≡ false

-- bytes of numbers are cut to themselves, and begin so
field_cut : (bytes : List ℕ) → 0 < length bytes → is_field bytes ≡ true → IsCutTo bytes bytes
field_cut [] some are = absurd (omega arith)
field_cut (byte ∷ bytes) some are = bare_cut byte bytes (no_delimiters (byte ∷ bytes) are)

field_front : (bytes : List ℕ) → 0 < length bytes → is_field bytes ≡ true → HasPlainFront bytes
field_front [] some are = absurd (omega arith)
field_front (byte ∷ bytes) some are =
    let first = (and_parts (is_field_byte byte) (is_field bytes) are).0 in
    record { byte = byte; others = bytes; whole = refl; other = grind (arith, nat_tests) }

number_cut : (kind : Kind) (number : ℤ) → FitsSigned w64 number
    → IsCutTo (number_text kind number) (number_text kind number)
number_cut kind number fits =
    let small = is_small number fits in
    field_cut (number_text kind number) (number_is_some kind number small)
    (number_is kind number small)

number_front : (kind : Kind) (number : ℤ) → FitsSigned w64 number
    → HasPlainFront (number_text kind number)
number_front kind number fits =
    let small = is_small number fits in
    field_front (number_text kind number) (number_is_some kind number small)
    (number_is kind number small)

-- a text begins so
text_front : (text : List ℕ) → HasPlainFront (typed_text text)
text_front [] = record { byte = 34; others = 34 ∷ []; whole = refl; other = refl }
text_front (byte ∷ bytes) = by_bare (byte == 239) (list_any is_delimiter (byte ∷ bytes)) refl refl
  where
    in_quotes : HasPlainFront (codes "\"" ++ flat_map byte_text (byte ∷ bytes) ++ codes "\"")
    in_quotes = record {
      byte = 34;
      others = flat_map byte_text (byte ∷ bytes) ++ codes "\"";
      whole = refl;
      other = refl;
    }

    by_bare : (mark delimited : Bool) → (byte == 239) ≡ mark
        → list_any is_delimiter (byte ∷ bytes) ≡ delimited
        → HasPlainFront (typed_text (byte ∷ bytes))
    by_bare true delimited is has = rw is in_quotes
    by_bare false true is has = rw (is, has) in_quotes
    by_bare false false is has =
        rw (is, has) (record { byte = byte; others = bytes; whole = refl; other = is })

-- a field of a kind that is read is cut to its text, and begins so
cut_of : (kind : Kind) (one : Field) → IsTrue (has_digits kind && is_read kind) → IsFieldOf kind one
    → IsCutTo (field_text kind one) (raw_text kind one)
cut_of Int (field.Int number) may fits = number_cut Int number fits
cut_of (Fixed places) (field.Int number) may fits = number_cut (Fixed places) number fits
cut_of Text (field.Text text) may fits = text_cut text
cut_of Number one may fits = absurd (cc)
cut_of Table one may fits = absurd (cc)
cut_of kind one may fits = absurd fits

front_of : (kind : Kind) (one : Field) → IsTrue (has_digits kind && is_read kind)
    → IsFieldOf kind one → HasPlainFront (field_text kind one)
front_of Int (field.Int number) may fits = number_front Int number fits
front_of (Fixed places) (field.Int number) may fits = number_front (Fixed places) number fits
front_of Text (field.Text text) may fits = text_front text
front_of Number one may fits = absurd (cc)
front_of Table one may fits = absurd (cc)
front_of kind one may fits = absurd fits

-- the line is cut to the texts
line_cut : (columns : List Column) (item : List Field) → 0 < length columns
    → IsTrue (are_read columns) → IsItemOf columns item
    → texts_in (line_of columns item) ≡ raw_texts columns item
line_cut [] item some may is = absurd (omega arith)
line_cut (column ∷ []) (one ∷ []) some may is =
    let parts = and_parts (has_digits column.kind && is_read column.kind) (are_read []) may in
    (cut_of column.kind one parts.0 is.0).last
line_cut (column ∷ second ∷ columns) (one ∷ other ∷ item) some may is =
    let parts = and_parts (has_digits column.kind && is_read column.kind)
    (are_read (second ∷ columns)) may in
    let rest = line_of (second ∷ columns) (other ∷ item) in
    ap texts_in (append_assoc (field_text column.kind one) (codes ",") rest)
    ∙ (cut_of column.kind one parts.0 is.0).before rest
    ∙ ap (λ (texts : List (List ℕ)). raw_text column.kind one ∷ texts)
    (line_cut (second ∷ columns) (other ∷ item) (omega arith) parts.1 is.1)
line_cut (column ∷ []) [] some may is = absurd is
line_cut (column ∷ []) (one ∷ other ∷ item) some may is = absurd is.1
line_cut (column ∷ second ∷ columns) [] some may is = absurd is
line_cut (column ∷ second ∷ columns) (one ∷ []) some may is = absurd is.1

-- it begins as its first field does
longer : (front rest : List ℕ) → HasPlainFront front → HasPlainFront (front ++ rest)
longer front rest has = record {
  byte = has.byte;
  others = has.others ++ rest;
  whole = ap (λ (b : List ℕ). b ++ rest) has.whole;
  other = has.other;
}

line_front : (columns : List Column) (item : List Field) → 0 < length columns
    → IsTrue (are_read columns) → IsItemOf columns item → HasPlainFront (line_of columns item)
line_front [] item some may is = absurd (omega arith)
line_front (column ∷ []) (one ∷ []) some may is =
    let parts = and_parts (has_digits column.kind && is_read column.kind) (are_read []) may in
    front_of column.kind one parts.0 is.0
line_front (column ∷ second ∷ columns) (one ∷ other ∷ item) some may is =
    let parts = and_parts (has_digits column.kind && is_read column.kind)
    (are_read (second ∷ columns)) may in
    longer (field_text column.kind one ++ codes ",") (line_of (second ∷ columns) (other ∷ item))
    (longer (field_text column.kind one) (codes ",") (front_of column.kind one parts.0 is.0))
line_front (column ∷ []) [] some may is = absurd is
line_front (column ∷ []) (one ∷ other ∷ item) some may is = absurd is.1
line_front (column ∷ second ∷ columns) [] some may is = absurd is
line_front (column ∷ second ∷ columns) (one ∷ []) some may is = absurd is.1

-- so it has no mark, and is not empty
no_mark : (line : List ℕ) → HasPlainFront line → starts_with ◌==◌ line mark ≡ false
no_mark line has =
    let other = has.other in
    rw has.whole (grind (arith, nat_tests))

not_empty : (line : List ℕ) → HasPlainFront line → 0 < length line
not_empty line has = rw has.whole (omega arith)

-- its texts are read to the fields
texts_are_read : (at : ℕ) (columns : List Column) (item : List Field) → IsTrue (are_read columns)
    → IsItemOf columns item → fields_of at columns (raw_texts columns item) ≡ Ok item
texts_are_read at [] [] may is = refl
texts_are_read at (column ∷ columns) (one ∷ item) may is =
    let parts = and_parts (has_digits column.kind && is_read column.kind) (are_read columns) may in
    let first = writes_field column.kind (raw_text column.kind one) one
    (field_writes column.kind one parts.0 is.0) in
    rw (first, texts_are_read (at + 1) columns item parts.1 is.1) refl
texts_are_read at [] (one ∷ item) may is = absurd is
texts_are_read at (column ∷ columns) [] may is = absurd is

-- as many texts as columns
length-raw : (columns : List Column) (item : List Field) → IsItemOf columns item
    → length (raw_texts columns item) ≡ length columns
length-raw [] [] is = refl
length-raw (column ∷ columns) (one ∷ item) is = ap suc (length-raw columns item is.1)
length-raw [] (one ∷ item) is = absurd is
length-raw (column ∷ columns) [] is = absurd is

-- the line is read to the item
pub line_is_read : (columns : List Column) (item : List Field) → IsTrue (are_columns columns)
    → IsItemOf columns item → IsTrue (is_shown (line_of columns item))
    → item_of columns (line_of columns item) ≡ Ok item
line_is_read columns item may is shown =
    let line = line_of columns item in
    let unbroken = shown_unbroken line shown in
    let one = and_parts (nat_lt 0 (length columns) && nat_le (length columns) max_columns
    && are_distinct columns) (are_read columns) may in
    let two = and_parts (nat_lt 0 (length columns) && nat_le (length columns) max_columns)
    (are_distinct columns) one.0 in
    let three = and_parts (nat_lt 0 (length columns)) (nat_le (length columns) max_columns) two.0 in
    let first = three.0 in
    let some : 0 < length columns = grind (arith, nat_tests) in
    let cut = line_cut columns item some one.1 is in
    let front = line_front columns item some one.1 is in
    cut_item_of columns line line (sym (strip_bom-none line (no_mark line front)))
    (not_empty line front) unbroken (ap length cut ∙ length-raw columns item is)
    ∙ ap (fields_of 1 columns) cut ∙ texts_are_read 1 columns item one.1 is
