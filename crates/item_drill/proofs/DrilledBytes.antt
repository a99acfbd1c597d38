-- The lines of drilled bytes.
use Rattle.std.proofs.Common.{◌≡◌, ◌≢◌, ℕ, zero, suc, ◌*◌, ◌-◌, ◌<◌, ◌≤◌, ◌&&◌, ◌==◌, Bool, true}
use Rattle.std.proofs.Common.{false, nat_lt, if◌then◌else◌, IsTrue, List, [], ◌∷◌, ◌++◌, length}
use Rattle.std.proofs.Common.{get_or, map, refl, sym, ap, ◌∙◌, append-nil, arith}
use Rattle.std.specs.Io.BufRead.{ends_with_byte}
use Rattle.std.specs.List.{AllByRecursion, list_all, list_any}
use Rattle.std.proofs.lemmas.Bool.{and_parts, eqb-false}
use Rattle.std.proofs.lemmas.Bool.Decides.{nat_tests}
use Rattle.std.proofs.lemmas.List.{length-append, map-append}
use Rattle.std.proofs.lemmas.List.Elements.{All-append, All-nil}
use Rattle.io_edge.specs.Lines.{NoLf, Shown, ended_by_lf, lines, text}
use Rattle.io_edge.specs.Limits.{max_line}
use Rattle.io_edge.proofs.OneList.{lines-only}
use Rattle.language_base.specs.Limits.{max_columns}
use Rattle.item_schema.specs.declared.column.Column.{Column}
use Rattle.item_schema.specs.Layout.{Layout, has_digits, is_read}
use Rattle.line_reader.proofs.Cuts.{All-none}
use Rattle.item_drill.specs.Draws.{drawn, state_after, next_state}
use Rattle.item_drill.specs.Lines.{are_read, bytes_of, drill_bytes, header_of, line_from}
use Rattle.item_drill.specs.Lines.{lines_from, names_of, row_of, texts_from}
use Rattle.item_drill.proofs.FieldValues.{field_is_short}
use Rattle.item_drill.proofs.Readings.{first_is_read, is_row_byte, none_passes, row_is, texts_are}

-- a line has at most 16 bytes for each column
line_is_short : (columns : List Column) (state : ℕ) → IsTrue (are_read columns)
    → length (line_from columns state) ≤ 16 * length columns
line_is_short [] state may = omega arith
line_is_short (column ∷ []) state may =
    omega (
      arith,
      field_is_short column.kind (drawn (next_state state)) (first_is_read column [] may),
    )
line_is_short (column ∷ second ∷ columns) state may =
    let parts = and_parts (has_digits column.kind && is_read column.kind)
    (are_read (second ∷ columns)) may in
    let here = field_is_short column.kind (drawn (next_state state)) parts.0 in
    let others = line_is_short (second ∷ columns) (next_state state) parts.1 in
    rw length-append (omega (arith, here, others))

-- its bytes are those of fields and commas
line_is : (columns : List Column) (state : ℕ)
    → list_all is_row_byte (line_from columns state) ≡ true
line_is columns state = row_is (texts_from columns state) (texts_are columns state)

-- so none of them is an LF, and none a CR
no_lf : (byte : ℕ) → is_row_byte byte ≡ true → (byte == 10) ≡ false
no_lf byte is = grind (arith, nat_tests)

no_cr : (byte : ℕ) → is_row_byte byte ≡ true → (byte == 13) ≡ false
no_cr byte is = grind (arith, nat_tests)

without_lf : (bytes : List ℕ) → list_any (λ byte. byte == 10) bytes ≡ false → NoLf bytes
without_lf bytes none k d within =
    eqb-false (get_or bytes k d) 10 (All-none (λ byte. byte == 10) bytes none k d within)

line_has_no_lf : (columns : List Column) (state : ℕ) → NoLf (line_from columns state)
line_has_no_lf columns state =
    let line = line_from columns state in
    without_lf line
    (none_passes is_row_byte (λ byte. byte == 10) no_lf line (line_is columns state))

-- bytes without a CR end with none
ends_without : (bytes : List ℕ) → list_any (λ byte. byte == 13) bytes ≡ false
    → ends_with_byte 13 bytes ≡ false
ends_without [] none = refl
ends_without (byte ∷ bytes) none =
    let within : length bytes < length (byte ∷ bytes) = omega arith in
    let at : suc (length bytes) - 1 ≡ length bytes = omega arith in
    let last = All-none (λ b. b == 13) (byte ∷ bytes) none (length bytes) 0 within in
    rw at (fails (nat_lt 0 (suc (length bytes))) _ last)
  where
    fails : (some is : Bool) → is ≡ false → (some && is) ≡ false
    fails true is none = none
    fails false is none = refl

-- a line is shown as it is
line_shows : (columns : List Column) (state : ℕ) → length columns ≤ max_columns
    → IsTrue (are_read columns)
    → ended_by_lf (line_from columns state) ≡ text (line_from columns state)
line_shows columns state few may =
    let line = line_from columns state in
    let short : nat_lt max_line (length line) ≡ false =
    grind (arith, nat_tests, line_is_short columns state may) in
    let last = ends_without line
    (none_passes is_row_byte (λ byte. byte == 13) no_cr line (line_is columns state)) in
    rw (short, last) refl

-- so are all lines
lines_show : (columns : List Column) (count state : ℕ) → length columns ≤ max_columns
    → IsTrue (are_read columns)
    → map ended_by_lf (lines_from columns count state) ≡ map text (lines_from columns count state)
lines_show columns zero state few may = refl
lines_show columns (suc count) state few may =
    rw (
      line_shows columns state few may,
      lines_show columns count (state_after (length columns) state) few may,
    ) refl

-- no line has an LF
lines_are_lines : (columns : List Column) (count state : ℕ)
    → AllByRecursion NoLf (lines_from columns count state)
lines_are_lines columns zero state = tt
lines_are_lines columns (suc count) state = (
  line_has_no_lf columns state,
  lines_are_lines columns count (state_after (length columns) state),
)

-- nor has the header, where no name has one
without_lf-comma : NoLf (44 ∷ [])
without_lf-comma = without_lf (44 ∷ []) refl

row_has_no_lf : (names : List (List ℕ)) → AllByRecursion NoLf names → NoLf (row_of names)
row_has_no_lf [] are = All-nil (λ byte. byte ≢ 10)
row_has_no_lf (name ∷ []) are = are.0
row_has_no_lf (name ∷ second ∷ names) are =
    let others = row_has_no_lf (second ∷ names) are.1 in
    All-append (λ byte. byte ≢ 10) name (44 ∷ row_of (second ∷ names)) are.0
    (All-append (λ byte. byte ≢ 10) (44 ∷ []) (row_of (second ∷ names)) without_lf-comma others)

with_header : (has_header : Bool) (header : List ℕ) (after : List (List ℕ)) → NoLf header
    → AllByRecursion NoLf after
    → AllByRecursion NoLf ((if has_header then header ∷ [] else []) ++ after)
with_header true header after is are = (is, are)
with_header false header after is are = are

-- the lines of a drill are those of its bytes
pub bytes_have_lines : (layout : Layout) (count seed : ℕ) → length layout.columns ≤ max_columns
    → IsTrue (are_read layout.columns) → AllByRecursion NoLf (names_of layout.columns)
    → lines (drill_bytes layout count seed) true
    ≡ map ended_by_lf (header_of layout) ++ map text (lines_from layout.columns count seed)
bytes_have_lines layout count seed few may names =
    let header = header_of layout in
    let after = lines_from layout.columns count seed in
    let shown : map ended_by_lf header ++ map text after ≡ map ended_by_lf (header ++ after) ++ [] =
    ap (λ (l : List Shown). map ended_by_lf header ++ l)
    (sym (lines_show layout.columns count seed few may))
    ∙ sym (map-append ended_by_lf header after)
    ∙ sym (append-nil (map ended_by_lf (header ++ after)))
    in
    sym (lines-only (drill_bytes layout count seed) true
    (map ended_by_lf header ++ map text after) (record {
      raws = header ++ after;
      rest = [];
      whole = sym (append-nil (bytes_of (header ++ after)));
      each = with_header layout.has_header (row_of (names_of layout.columns)) after
          (row_has_no_lf (names_of layout.columns) names)
          (lines_are_lines layout.columns count seed);
      last = All-nil (λ byte. byte ≢ 10);
      are = shown;
    }))
