-- Statement. After which items of its stream a query has no value any more.
use Rattle.std.specs.Prelude.{◌≡◌, ℕ, IsTrue, List, ◌∷◌, ◌++◌, Ok, length, map}
use Rattle.std.specs.List.{list_all}
use Rattle.value_ops.specs.declared.field.Field.{Field}
use Rattle.value_ops.specs.declared.value.Value.{Value}
use Rattle.item_schema.specs.declared.column.Column.{Column}
use Rattle.line_reader.specs.Reading.{item_of}
use Rattle.rate_expr.specs.Readings.{HasExtension}
use Rattle.rate_expr.specs.Words.{Word, IsWordOf}
use Rattle.query_model.specs.Denotation.{Den}
use Rattle.query_model.specs.Monitors.{Monitor}
use Rattle.query_model.specs.Rates.{rate_of}
use Rattle.dead_words.specs.Outlooks.{GoOnBelow}
use Rattle.item_lines.specs.Lines.{is_shown, line_of}
use Rattle.dead_example.specs.declared.ending.Ending.{Ending}
use Rattle.dead_example.specs.declared.ending.Ending.TheVariants.{Lines, Never, Unknown}

-- the word with further items, of which there is at least one, has this value
pub record LeadsToValue (monitor : Monitor) (word : Word) : Type 0 where
  pub item : List Field
  pub more : Word
  pub value : Value
  pub items : IsWordOf monitor.layout.columns (item ∷ more)
  pub den : Den monitor.query (word ++ item ∷ more) value

-- no further items lead from the word to a value, and from each word with fewer items some lead to
-- a word of the rate
pub record IsEnding (monitor : Monitor) (word : Word) : Type 0 where
  pub items : IsWordOf monitor.layout.columns word
  pub dead : LeadsToValue monitor word → ⊥
  pub shortest : GoOnBelow monitor.layout.columns (rate_of monitor.query) (length word)

-- the lines of the items, each of which is shown
pub record AreLinesOf (columns : List Column) (word : Word) (lines : List (List ℕ))
    : Type 0 where
  pub lines_are : lines ≡ map (line_of columns) word
  pub shown : IsTrue (list_all is_shown lines)

-- the lines, each read by itself, are the items of this word over these columns
abbrev pub AreRead : List Column → List (List ℕ) → Word → Type 0
AreRead columns lines word = map (item_of columns) lines ≡ map Ok word

-- this is the ending of the query
abbrev pub IsEndingOf : Monitor → Ending → Type 0
IsEndingOf monitor (Lines lines) = (word : Word) × IsEnding monitor word
    × AreLinesOf monitor.layout.columns word lines.items
IsEndingOf monitor Never = (word : Word) → IsWordOf monitor.layout.columns word
    → HasExtension monitor.layout.columns (rate_of monitor.query) word
IsEndingOf monitor Unknown = Unit {0}
