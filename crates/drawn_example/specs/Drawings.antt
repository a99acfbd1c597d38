-- Statement. A word with two readings, drawn: a row for each item, with what reads the item in one
-- reading and in the other.
use Rattle.std.specs.Prelude.{◌+◌, ◌-◌, ◌==◌, nat_le, min, max, ℕ, List, [], ◌∷◌, ◌++◌, length}
use Rattle.std.specs.Prelude.{take, drop, count_by, codes, decimal, if◌then◌else◌}
use Rattle.std.specs.Option.{unwrap_or}
use Rattle.value_ops.specs.declared.field.Field.{Field}
use Rattle.item_schema.specs.declared.column.Column.{Column}
use Rattle.rate_expr.specs.Words.{Word}
use Rattle.ambiguity_example.specs.Shows.{Question, Shown, choice, split, iter}
use Rattle.item_lines.specs.Lines.{shown_line}
use Rattle.drawn_example.specs.declared.readers.Readers.{Readers}
use Rattle.drawn_example.specs.declared.readers.Readers.TheVariants.{Both, Operands, Pieces}
use Rattle.drawn_example.specs.declared.row.TheConstants.{NOT_SHOWN}

-- what reads the items of a word that breaks the rule of the question
abbrev pub readers_of : Question → Readers
readers_of (choice r s) = Both
readers_of (split r s) = Operands
readers_of (iter r) = Pieces

-- what stands above the two readings
abbrev pub heading : List ℕ
heading = codes "    one way  another\n"

-- what is said about the items, or about the empty word
unfoldable pub said_of : Readers → Word → List ℕ
said_of Both [] = codes "Both operands have a value on no items at all.\n"
said_of Both (item ∷ items) = codes "Both operands have a value on these items:\n"
said_of Operands items =
    codes "These items can be parted in two ways between the left and the right operand:\n"
    ++ heading
said_of Pieces [] =
    codes "The operand has a value on no items at all: these are no piece, or one piece.\n"
said_of Pieces (item ∷ items) =
    codes "These items can be parted in two ways into pieces, which are numbered here:\n" ++ heading

-- the number of the piece that has the item at a place, counted from 1: that many pieces begin
-- there or before
abbrev pub piece_at : List ℕ → ℕ → ℕ
piece_at cuts place = count_by (λ cut. nat_le cut place) cuts

-- which operand reads the piece: the first piece or the second
abbrev pub operand : ℕ → List ℕ
operand piece = if piece == 1 then codes "left" else codes "right"

-- a text and blanks, at least one of them, in nine columns
abbrev pub cell : List ℕ → List ℕ
cell text = text ++ drop (min (length text) 8) (codes "         ")

-- what reads the item at the place, in one reading and in the other
abbrev pub cells_at : Readers → Shown → ℕ → List ℕ
cells_at Both shown place = []
cells_at Operands shown place =
    cell (operand (piece_at shown.first place)) ++ cell (operand (piece_at shown.second place))
cells_at Pieces shown place =
    cell (decimal (piece_at shown.first place)) ++ cell (decimal (piece_at shown.second place))

-- the line of an item, or a text in its place if it cannot be shown
abbrev pub line_text : List Column → List Field → List ℕ
line_text columns item = unwrap_or (shown_line columns item) NOT_SHOWN.now

-- the row of an item: what reads it, and its line
abbrev pub row : List Column → List ℕ → List Field → List ℕ
row columns cells item = codes "    " ++ cells ++ line_text columns item ++ codes "\n"

-- the rows of items from the place on
abbrev pub rows : List Column → (ℕ → List ℕ) → ℕ → Word → List ℕ
rows columns cells place [] = []
rows columns cells place (item ∷ items) =
    row columns (cells place) item ++ rows columns cells (place + 1) items

-- how many items are left out between two rows, if any
abbrev pub gap : ℕ → List ℕ
gap items =
    if items == 0 then [] else codes "    (items left out here: " ++ decimal items ++ codes ")\n"

-- the place where two readings differ first: the first cut of one that the other does not have
abbrev pub parting : List ℕ → List ℕ → ℕ
parting (cut ∷ cuts) (other ∷ others) = if cut == other then parting cuts others else min cut other
parting _ _ = 0

-- of `items` items those around a place, four before it and four from it on, without the first four
-- and the last four of all
abbrev pub window_from : ℕ → ℕ → ℕ
window_from items place = min (max (place - 4) 4) (items - 4)

abbrev pub window_to : ℕ → ℕ → ℕ
window_to items place = max (min (place + 4) (items - 4)) (window_from items place)

-- the items from one place to another
abbrev pub between : ℕ → ℕ → Word → Word
between from to items = take (to - from) (drop from items)

-- the rows of a long word: the first and the last four items, and those in between that are drawn
abbrev pub some_rows : List Column → (ℕ → List ℕ) → ℕ → ℕ → Word → List ℕ
some_rows columns cells from to items =
    rows columns cells 0 (take 4 items) ++ gap (from - 4)
    ++ rows columns cells from (between from to items) ++ gap (length items - 4 - to)
    ++ rows columns cells (length items - 4) (drop (length items - 4) items)

-- the rows of a word whose readings differ first at the place: all items, or if there are more than
-- sixteen those at its ends and around the place
abbrev pub rows_of : List Column → (ℕ → List ℕ) → ℕ → Word → List ℕ
rows_of columns cells place items =
    if nat_le (length items) 16 then rows columns cells 0 items
    else some_rows columns cells
    (window_from (length items) place) (window_to (length items) place) items

-- the sentence and the rows
abbrev pub drawing : List Column → Readers → Shown → List ℕ
drawing columns readers shown =
    said_of readers shown.items
    ++ rows_of columns (cells_at readers shown) (parting shown.first shown.second) shown.items
