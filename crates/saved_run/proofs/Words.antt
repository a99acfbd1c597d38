-- The items of bytes are a word of the stream.
use Rattle.std.proofs.Common.{◌≡◌, ◌==◌, ℕ, Bool, true, false, cond, nat_lt, List, [], ◌∷◌, ◌++◌}
use Rattle.std.proofs.Common.{◌-◌, zero, suc, length, take, Some, Result, Ok, Err, refl, ◌∙◌}
use Rattle.std.specs.Io.BufRead.{ends_with_byte}
use Rattle.std.specs.List.{AllByRecursion, flat_map}
use Rattle.std.proofs.lemmas.Bool.{and_from, and_parts}
use Rattle.std.proofs.lemmas.List.Folds.{list_all-append}
use Rattle.io_edge.specs.Limits.{max_line}
use Rattle.io_edge.specs.Lines.{Shown, text, long, ended_by_end, ended_by_lf, lines_from}
use Rattle.io_edge.specs.Lines.{lines}
use Rattle.value_ops.specs.Texts.{IsText, are_bytes}
use Rattle.value_ops.specs.declared.field.Field.{Field}
use Rattle.item_schema.specs.Layout.{Layout}
use Rattle.item_schema.specs.declared.column.Column.{Column}
use Rattle.line_reader.proofs.Items.{item_is_of}
use Rattle.line_reader.specs.Reading.{item_of}
use Rattle.line_reader.specs.declared.stop.Skip.{Skip}
use Rattle.rate_expr.specs.Words.{IsWordOf}
use Rattle.stream_run.specs.Output.{body_of, item_in, read_of}
use Rattle.stream_run.specs.Resumed.{items_after}
use Rattle.stream_run.proofs.LineItems.{word_joined}

-- the line shows bytes, or that it is too long
abbrev ShowsBytes : Shown → Type 0
ShowsBytes (text bytes) = IsText bytes
ShowsBytes long = Unit {0}

-- a first part of bytes is bytes
taken_bytes : (count : ℕ) (bytes : List ℕ) → IsText bytes → IsText (take count bytes)
taken_bytes zero bytes are = refl
taken_bytes (suc count) [] are = refl
taken_bytes (suc count) (byte ∷ bytes) are =
    let parts = and_parts (nat_lt byte 256) (are_bytes bytes) are in
    and_from (nat_lt byte 256) (are_bytes (take count bytes)) parts.0
    (taken_bytes count bytes parts.1)

-- a line that an LF ends
lf_shows : (raw : List ℕ) → IsText raw → ShowsBytes (ended_by_lf raw)
lf_shows raw are = at (nat_lt max_line (length raw)) (ends_with_byte 13 raw)
  where
    at : (is_long ends : Bool)
        → ShowsBytes (cond is_long long (text (cond ends (take (length raw - 1) raw) raw)))
    at true ends = tt
    at false true = taken_bytes (length raw - 1) raw are
    at false false = are

-- and one that the end of the input ends
end_shows : (raw : List ℕ) → IsText raw → ShowsBytes (ended_by_end raw)
end_shows raw are = at (nat_lt max_line (length raw))
  where
    at : (is_long : Bool) → ShowsBytes (cond is_long long (text raw))
    at true = tt
    at false = are

-- so it is for all lines
lines_show : (start bytes : List ℕ) → IsText start → IsText bytes
    → AllByRecursion ShowsBytes (lines_from start bytes true)
lines_show start [] begun are = at (nat_lt 0 (length start))
  where
    at : (is_some : Bool) → AllByRecursion ShowsBytes (cond is_some (ended_by_end start ∷ []) [])
    at true = (end_shows start begun, tt)
    at false = tt
lines_show start (byte ∷ bytes) begun are =
    let parts = and_parts (nat_lt byte 256) (are_bytes bytes) are in
    let more : IsText (start ++ byte ∷ []) = list_all-append (λ n. nat_lt n 256) start (byte ∷ [])
    ∙ and_from (are_bytes start) (are_bytes (byte ∷ [])) begun
    (and_from (nat_lt byte 256) true parts.0 refl) in
    at (byte == 10) (lf_shows start begun) (lines_show [] bytes refl parts.1)
    (lines_show (start ++ byte ∷ []) bytes more parts.1)
  where
    at : (is_lf : Bool) → ShowsBytes (ended_by_lf start)
        → AllByRecursion ShowsBytes (lines_from [] bytes true)
        → AllByRecursion ShowsBytes (lines_from (start ++ byte ∷ []) bytes true)
        → AllByRecursion ShowsBytes (cond is_lf (ended_by_lf start ∷ lines_from [] bytes true)
        (lines_from (start ++ byte ∷ []) bytes true))
    at true line ended continued = (line, ended)
    at false line ended continued = continued

-- what is read of a line of bytes is an item of the columns, if it is one
item_is : (columns : List Column) (line : Shown) → ShowsBytes line
    → IsWordOf columns (item_in (read_of columns line))
item_is columns long are = tt
item_is columns (text []) are = tt
item_is columns (text (byte ∷ bytes)) are = at (item_of columns (byte ∷ bytes)) refl
  where
    at : (read : Result (List Field) Skip) → item_of columns (byte ∷ bytes) ≡ read
        → IsWordOf columns (item_in (Some read))
    at (Ok item) is = (item_is_of columns (byte ∷ bytes) item are is, tt)
    at (Err why) is = tt

items_are : (columns : List Column) (shown : List Shown) → AllByRecursion ShowsBytes shown
    → IsWordOf columns (flat_map (λ line. item_in (read_of columns line)) shown)
items_are columns [] all = tt
items_are columns (line ∷ shown) all =
    word_joined columns (item_in (read_of columns line)) _ (item_is columns line all.0)
    (items_are columns shown all.1)

-- the lines after the header, too
body_shows : (has_header : Bool) (shown : List Shown) → AllByRecursion ShowsBytes shown
    → AllByRecursion ShowsBytes (body_of has_header shown)
body_shows true [] all = tt
body_shows true (line ∷ shown) all = all.1
body_shows false shown all = all

-- the items of all lines of bytes
pub items_are_word : (layout : Layout) (began : Bool) (bytes : List ℕ) → IsText bytes
    → IsWordOf layout.columns (items_after layout began bytes)
items_are_word layout began bytes are =
    items_are layout.columns _
    (body_shows (cond began false layout.has_header) (lines bytes true)
    (lines_show [] bytes refl are))
