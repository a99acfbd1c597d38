-- For the prover. After which items the rate of an automaton has no word any more, and the lines of
-- items of its cells.
use Rattle.std.specs.Prelude.{◌≡◌, ℕ, IsTrue, List, length}
use Rattle.value_ops.specs.declared.field.Field.{Field}
use Rattle.item_schema.specs.declared.column.Column.{Column}
use Rattle.predicate_cells.specs.Cells.{Partition, IsIn}
use Rattle.rate_expr.specs.Rates.{Regex}
use Rattle.rate_expr.specs.Readings.{HasExtension}
use Rattle.rate_expr.specs.Words.{Word, IsWordOf}
use Rattle.dead_words.specs.Outlooks.{AreIn, GoOnBelow, IsDeadEnd}
use Rattle.item_lines.specs.Lines.{is_shown, line_of}
use Rattle.dead_example.specs.Endings.{AreLinesOf}
use Rattle.dead_example.specs.declared.ending.Ending.{Ending}
use Rattle.dead_example.specs.declared.ending.Ending.TheVariants.{Lines, Never, Unknown}

-- no further items lead from the word to one of the rate, and from each word with fewer items some
-- do
pub record IsEndOfRate (columns : List Column) (rate : Regex) (word : Word) : Type 0 where
  pub items : IsWordOf columns word
  pub dead : IsDeadEnd columns rate word
  pub shortest : GoOnBelow columns rate (length word)

-- this is the ending of the rate
abbrev pub IsEndingOfRate : List Column → Regex → Ending → Type 0
IsEndingOfRate columns rate (Lines lines) =
    (word : Word) × IsEndOfRate columns rate word × AreLinesOf columns word lines.items
IsEndingOfRate columns rate Never = (word : Word) → IsWordOf columns word
    → HasExtension columns rate word
IsEndingOfRate columns rate Unknown = Unit {0}

-- the line of an item of the cell, which is shown
pub record IsLineIn (cells : Partition) (place : ℕ) (line : List ℕ) : Type 0 where
  pub item : List Field
  pub cell : IsIn cells place item
  pub line_is : line ≡ line_of cells.layout.columns item
  pub shown : IsTrue (is_shown line)

-- the lines of items of the cells
pub record AreLinesIn (cells : Partition) (places : List ℕ) (lines : List (List ℕ))
    : Type 0 where
  pub word : Word
  pub items : AreIn cells places word
  pub lines_are : AreLinesOf cells.layout.columns word lines
