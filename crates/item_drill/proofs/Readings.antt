-- The items of drilled lines.
use Rattle.std.proofs.Common.{◌≡◌, ℕ, ◌+◌, ◌<◌, ◌&&◌, ◌==◌, Bool, true, false, nat_lt, IsTrue, List}
use Rattle.std.proofs.Common.{[], ◌∷◌, ◌++◌, length, Ok, refl, sym, ap, ◌∙◌, arith}
use Rattle.std.specs.List.{All, AllByRecursion, list_all, list_any, slice_split, starts_with}
use Rattle.std.proofs.lemmas.Bool.{and_from, and_parts}
use Rattle.std.proofs.lemmas.Bool.Decides.{nat_tests}
use Rattle.std.proofs.lemmas.List.Folds.{list_all-append}
use Rattle.std.proofs.lemmas.List.Splits.{slice_split_at, slice_split_none}
use Rattle.item_schema.specs.declared.column.Column.{Column}
use Rattle.line_reader.specs.CutLines.{is_comma, mark, texts_in}
use Rattle.item_schema.specs.Layout.{has_digits, is_read}
use Rattle.line_reader.specs.LineParts.{is_special}
use Rattle.line_reader.specs.Reading.{fields_of, item_of}
use Rattle.line_reader.proofs.Cuts.{All-none}
use Rattle.line_reader.proofs.CutLines.{cut_item_of, strip_bom-none}
use Rattle.line_reader.proofs.PlainLines.{no_break, plain_texts_in}
use Rattle.line_reader.proofs.WrittenItems.{writes_field}
use Rattle.item_drill.specs.Draws.{drawn, next_state}
use Rattle.item_drill.specs.Fields.{field_of, field_text}
use Rattle.item_drill.specs.Lines.{are_read, item_from, line_from, row_of, texts_from}
use Rattle.item_drill.proofs.FieldBytes.{all_pass, field_is, is_field, is_field_byte}
use Rattle.item_drill.proofs.FieldValues.{field_is_some, field_writes}
use Rattle.item_drill.proofs.Rows.{length-texts_from}

-- none passes a test where all pass another
pub none_passes : (p q : ℕ → Bool) → ((x : ℕ) → p x ≡ true → q x ≡ false) → (xs : List ℕ)
    → list_all p xs ≡ true → list_any q xs ≡ false
none_passes p q passes [] are = refl
none_passes p q passes (x ∷ xs) are =
    let parts = and_parts (p x) (list_all p xs) are in
    rw (passes x parts.0) (none_passes p q passes xs parts.1)

-- a comma, or a byte of a field
abbrev pub is_row_byte : ℕ → Bool
is_row_byte byte = nat_lt 43 byte && nat_lt byte 128

in_row : (byte : ℕ) → is_field_byte byte ≡ true → is_row_byte byte ≡ true
in_row byte is = grind (arith, nat_tests)

no_comma : (byte : ℕ) → is_field_byte byte ≡ true → is_comma byte ≡ false
no_comma byte is = grind (arith, nat_tests)

no_special : (byte : ℕ) → is_row_byte byte ≡ true → is_special byte ≡ false
no_special byte is = grind (arith, nat_tests)

-- the texts have bytes of fields alone
abbrev pub AreFields : List (List ℕ) → Type 0
AreFields texts = AllByRecursion (λ text. is_field text ≡ true) texts

pub texts_are : (columns : List Column) (state : ℕ) → AreFields (texts_from columns state)
texts_are [] state = tt
texts_are (column ∷ columns) state =
    (field_is column.kind (drawn (next_state state)), texts_are columns (next_state state))

-- and their row has these and commas
pub row_is : (texts : List (List ℕ)) → AreFields texts → list_all is_row_byte (row_of texts) ≡ true
row_is [] are = refl
row_is (text ∷ []) are = all_pass is_field_byte is_row_byte in_row text are.0
row_is (text ∷ second ∷ texts) are =
    list_all-append is_row_byte text (44 ∷ row_of (second ∷ texts))
    ∙ and_from (list_all is_row_byte text) _ (all_pass is_field_byte is_row_byte in_row text are.0)
    (row_is (second ∷ texts) are.1)

-- cut at its commas it gives the texts back
has_no_comma : (text : List ℕ) → is_field text ≡ true → All (λ byte. is_comma byte ≡ false) text
has_no_comma text is = All-none is_comma text (none_passes is_field_byte is_comma no_comma text is)

row_is_cut : (texts : List (List ℕ)) → 0 < length texts → AreFields texts
    → slice_split is_comma (row_of texts) ≡ texts
row_is_cut [] some are = absurd (omega arith)
row_is_cut (text ∷ []) some are =
    slice_split_none is_comma text (has_no_comma text are.0)
row_is_cut (text ∷ second ∷ texts) some are =
    slice_split_at is_comma text 44 (row_of (second ∷ texts)) (has_no_comma text are.0) refl
    ∙ ap (λ (l : List (List ℕ)). text ∷ l) (row_is_cut (second ∷ texts) (omega arith) are.1)

-- it has no byte order mark
no_mark : (line : List ℕ) → list_all is_row_byte line ≡ true → starts_with ◌==◌ line mark ≡ false
no_mark [] are = refl
no_mark (byte ∷ line) are =
    let first = (and_parts (is_row_byte byte) (list_all is_row_byte line) are).0 in
    grind (arith, nat_tests)

-- the first of columns that are read
pub first_is_read : (column : Column) (columns : List Column) → IsTrue (are_read (column ∷ columns))
    → IsTrue (has_digits column.kind && is_read column.kind)
first_is_read column columns may =
    (and_parts (has_digits column.kind && is_read column.kind) (are_read columns) may).0

-- it is not empty
pub not_empty : (columns : List Column) (state : ℕ) → 0 < length columns → IsTrue (are_read columns)
    → 0 < length (line_from columns state)
not_empty [] state some may = absurd (omega arith)
not_empty (column ∷ []) state some may =
    field_is_some column.kind (drawn (next_state state)) (first_is_read column [] may)
not_empty (column ∷ second ∷ columns) state some may =
    after (field_text column.kind (drawn (next_state state))) _
  where
    after : (front rest : List ℕ) → 0 < length (front ++ 44 ∷ rest)
    after [] rest = omega arith
    after (byte ∷ front) rest = omega arith

-- its texts are read to the fields
texts_are_read : (at : ℕ) (columns : List Column) (state : ℕ) → IsTrue (are_read columns)
    → fields_of at columns (texts_from columns state) ≡ Ok (item_from columns state)
texts_are_read at [] state may = refl
texts_are_read at (column ∷ columns) state may =
    let draw = drawn (next_state state) in
    let parts = and_parts (has_digits column.kind && is_read column.kind) (are_read columns) may in
    let writes = field_writes column.kind draw parts.0 in
    let first = writes_field column.kind (field_text column.kind draw)
    (field_of column.kind draw) writes in
    rw (first, texts_are_read (at + 1) columns (next_state state) parts.1) refl

-- a line is read to the item of its draws
pub line_has_item : (columns : List Column) (state : ℕ) → 0 < length columns
    → IsTrue (are_read columns)
    → item_of columns (line_from columns state) ≡ Ok (item_from columns state)
line_has_item columns state some may =
    let texts = texts_from columns state in
    let line = line_from columns state in
    let bytes = row_is texts (texts_are columns state) in
    let special = none_passes is_row_byte is_special no_special line bytes in
    let each = length-texts_from columns state in
    let cut : texts_in line ≡ texts =
    plain_texts_in line special ∙ row_is_cut texts (omega (arith, each)) (texts_are columns state)
    in
    let unmarked = strip_bom-none line (no_mark line bytes) in
    cut_item_of columns line line (sym unmarked) (not_empty columns state some may)
    (no_break line special) (ap length cut ∙ each)
    ∙ ap (fields_of 1 columns) cut ∙ texts_are_read 1 columns state may
