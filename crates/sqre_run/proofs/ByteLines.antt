-- The lines of bytes are bytes, and so their items are items of the columns.
use Rattle.std.proofs.Common.{◌≡◌, ◌==◌, ◌&&◌, ◌-◌, ℕ, zero, suc, Bool, true, false, cond, List, []}
use Rattle.std.proofs.Common.{◌∷◌, ◌++◌, length, take, Some, Result, Ok, Err, refl, nat_lt}
use Rattle.std.specs.List.{AllByRecursion, flat_map}
use Rattle.std.specs.Io.BufRead.{ends_with_byte}
use Rattle.io_edge.specs.Lines.{Shown, text, long, ended_by_end, ended_by_lf, lines, lines_from}
use Rattle.io_edge.specs.Limits.{max_line}
use Rattle.value_ops.specs.Texts.{IsText}
use Rattle.value_ops.specs.declared.field.Field.{Field}
use Rattle.item_schema.specs.Layout.{Layout}
use Rattle.item_schema.specs.declared.column.Column.{Column}
use Rattle.line_reader.specs.declared.stop.Skip.{Skip}
use Rattle.line_reader.specs.Reading.{item_of}
use Rattle.line_reader.proofs.Items.{item_is_of}
use Rattle.rate_expr.specs.Words.{Word, IsWordOf}
use Rattle.stream_run.specs.Output.{body_of, item_in, items_of, read_of}

-- each number is a byte
abbrev AreBytes : List ℕ → Type 0
AreBytes bytes = AllByRecursion (λ b. nat_lt b 256 ≡ true) bytes

and_parts : (a b : Bool) → (a && b) ≡ true → (a ≡ true) × (b ≡ true)
and_parts true b is = (refl, is)
and_parts false b is = absurd (cc)

and_both : (a b : Bool) → a ≡ true → b ≡ true → (a && b) ≡ true
and_both true b is is' = is'
and_both false b is is' = is

bytes_in : (bytes : List ℕ) → IsText bytes → AreBytes bytes
bytes_in [] is = tt
bytes_in (b ∷ bytes) is = let parts = and_parts _ _ is in (parts.0, bytes_in bytes parts.1)

text_in : (bytes : List ℕ) → AreBytes bytes → IsText bytes
text_in [] are = refl
text_in (b ∷ bytes) are = and_both _ _ are.0 (text_in bytes are.1)

bytes_push : (bytes : List ℕ) (b : ℕ) → AreBytes bytes → nat_lt b 256 ≡ true
    → AreBytes (bytes ++ b ∷ [])
bytes_push [] b are is = (is, tt)
bytes_push (x ∷ bytes) b are is = (are.0, bytes_push bytes b are.1 is)

bytes_taken : (n : ℕ) (bytes : List ℕ) → AreBytes bytes → AreBytes (take n bytes)
bytes_taken zero bytes are = tt
bytes_taken (suc n) [] are = tt
bytes_taken (suc n) (b ∷ bytes) are = (are.0, bytes_taken n bytes are.1)

-- a line that is shown has bytes
abbrev pub IsByteLine : Shown → Type 0
IsByteLine (text line) = IsText line
IsByteLine long = Unit {0}

shown_lf : (is_long ends : Bool) (raw : List ℕ) → AreBytes raw
    → IsByteLine (cond is_long long (text (cond ends (take (length raw - 1) raw) raw)))
shown_lf true ends raw are = tt
shown_lf false true raw are = text_in _ (bytes_taken (length raw - 1) raw are)
shown_lf false false raw are = text_in raw are

shown_end : (is_long : Bool) (raw : List ℕ) → AreBytes raw
    → IsByteLine (cond is_long long (text raw))
shown_end true raw are = tt
shown_end false raw are = text_in raw are

last_shown : (there : Bool) (rest : List ℕ) → AreBytes rest
    → AllByRecursion IsByteLine (cond there (ended_by_end rest ∷ []) [])
last_shown true rest are = (shown_end (nat_lt max_line (length rest)) rest are, tt)
last_shown false rest are = tt

next_shown : (is_lf : Bool) (line : Shown) (here there : List Shown) → IsByteLine line
    → AllByRecursion IsByteLine here → AllByRecursion IsByteLine there
    → AllByRecursion IsByteLine (cond is_lf (line ∷ here) there)
next_shown true line here there is are are' = (is, are)
next_shown false line here there is are are' = are'

lines_shown : (start bytes : List ℕ) (ended : Bool) → AreBytes start → AreBytes bytes
    → AllByRecursion IsByteLine (lines_from start bytes ended)
lines_shown start [] ended are are' = last_shown (ended && nat_lt 0 (length start)) start are
lines_shown start (x ∷ bytes) ended are are' =
    next_shown (x == 10) (ended_by_lf start) (lines_from [] bytes ended)
    (lines_from (start ++ x ∷ []) bytes ended)
    (shown_lf (nat_lt max_line (length start)) (ends_with_byte 13 start) start are)
    (lines_shown [] bytes ended tt are'.1)
    (lines_shown (start ++ x ∷ []) bytes ended (bytes_push start x are are'.0) are'.1)

-- the lines of bytes have bytes
pub byte_lines : (bytes : List ℕ) (ended : Bool) → IsText bytes
    → AllByRecursion IsByteLine (lines bytes ended)
byte_lines bytes ended is = lines_shown [] bytes ended tt (bytes_in bytes is)

-- lines that are put together
pub byte_lines-append : (shown more : List Shown) → AllByRecursion IsByteLine shown
    → AllByRecursion IsByteLine more → AllByRecursion IsByteLine (shown ++ more)
byte_lines-append [] more are are' = are'
byte_lines-append (line ∷ shown) more are are' = (are.0, byte_lines-append shown more are.1 are')

-- the item of a line, if there is one
item_word : (columns : List Column) (line : List ℕ) (read : Result (List Field) Skip) → IsText line
    → item_of columns line ≡ read → IsWordOf columns (item_in (Some read))
item_word columns line (Ok item) is reads = (item_is_of columns line item is reads, tt)
item_word columns line (Err why) is reads = tt

line_word : (columns : List Column) (line : Shown) → IsByteLine line
    → IsWordOf columns (item_in (read_of columns line))
line_word columns (text []) is = tt
line_word columns (text (b ∷ bytes)) is =
    item_word columns (b ∷ bytes) (item_of columns (b ∷ bytes)) is refl
line_word columns long is = tt

word_joined : (columns : List Column) (u v : Word) → IsWordOf columns u → IsWordOf columns v
    → IsWordOf columns (u ++ v)
word_joined columns [] v is others = others
word_joined columns (item ∷ u) v is others = (is.0, word_joined columns u v is.1 others)

lines_word : (columns : List Column) (shown : List Shown) → AllByRecursion IsByteLine shown
    → IsWordOf columns (flat_map (λ line. item_in (read_of columns line)) shown)
lines_word columns [] are = tt
lines_word columns (line ∷ shown) are =
    word_joined columns _ _ (line_word columns line are.0) (lines_word columns shown are.1)

body_lines : (has_header : Bool) (shown : List Shown) → AllByRecursion IsByteLine shown
    → AllByRecursion IsByteLine (body_of has_header shown)
body_lines true [] are = tt
body_lines true (line ∷ shown) are = are.1
body_lines false shown are = are

-- the items of lines of bytes are items of the columns
pub items_word : (layout : Layout) (shown : List Shown) → AllByRecursion IsByteLine shown
    → IsWordOf layout.columns (items_of layout shown)
items_word layout shown are = lines_word layout.columns (body_of layout.has_header shown)
    (body_lines layout.has_header shown are)
