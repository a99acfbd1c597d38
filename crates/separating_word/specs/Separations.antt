-- Statement. Lines of items on whose word one of two queries has a value, and the other has none.
use Rattle.std.specs.Prelude.{◌≡◌, ◌<◌, ◌↔◌, ℕ, IsTrue, List, map, length, Ok}
use Rattle.std.specs.List.{list_all}
use Rattle.value_ops.specs.declared.value.Value.{Value}
use Rattle.line_reader.specs.Reading.{item_of}
use Rattle.item_schema.specs.declared.column.Column.{Column}
use Rattle.rate_expr.specs.Language.{In}
use Rattle.rate_expr.specs.Words.{Word, IsWordOf}
use Rattle.query_model.specs.Denotation.{Den}
use Rattle.query_model.specs.Monitors.{Monitor}
use Rattle.query_model.specs.Rates.{rate_of}
use Rattle.item_lines.specs.Lines.{is_shown}
use Rattle.separating_word.specs.declared.separation.Separation.{Separation}
use Rattle.separating_word.specs.declared.separation.Side.{Side}
use Rattle.separating_word.specs.declared.separation.Side.TheVariants.{Left, Right}

-- the lines, each read by itself, are the items of this word over these columns
abbrev pub AreRead : List Column → List (List ℕ) → Word → Type 0
AreRead columns lines word = map (item_of columns) lines ≡ map Ok word

-- the query has a value on the items of the lines
abbrev pub HasValueOn : Monitor → List (List ℕ) → Type 0
HasValueOn monitor lines = (word : Word) × AreRead monitor.layout.columns lines word
    × ((value : Value) × Den monitor.query word value)

-- it has none on them
abbrev pub HasNoneOn : Monitor → List (List ℕ) → Type 0
HasNoneOn monitor lines = (word : Word) × AreRead monitor.layout.columns lines word
    × ((value : Value) → Den monitor.query word value → ⊥)

-- of the queries on the left and on the right, only the one on the side has a value on the items of
-- the lines
abbrev pub HasAlone : Side → Monitor → Monitor → List (List ℕ) → Type 0
HasAlone Left left right lines = HasValueOn left lines × HasNoneOn right lines
HasAlone Right left right lines = HasValueOn right lines × HasNoneOn left lines

-- each word with fewer items is in the rates of both queries or in neither
abbrev pub ShareWordsBelow : Monitor → Monitor → ℕ → Type 0
ShareWordsBelow left right items = (word : Word) → IsWordOf left.layout.columns word
    → length word < items → In (rate_of left.query) word ↔ In (rate_of right.query) word

-- the lines can be shown, and only the query on the side has a value on their items
pub record Separates (left right : Monitor) (found : Separation) : Type 0 where
  pub shown : IsTrue (list_all is_shown found.lines.items)
  pub alone : HasAlone found.side left right found.lines.items

-- no word with fewer items than there are lines is in the rate of only one query
abbrev pub IsShortest : Monitor → Monitor → Separation → Type 0
IsShortest left right found = ShareWordsBelow left right (length found.lines.items)
